use Rattle.std.proofs.Common.{arith}
use Rattle.std.proofs.lemmas.Int.{ints, to_z-of_z}
use mir.Val.{SFits}
use mir.Syntax.{w64}
use Rattle.mesh_check.proofs.checking.side_verdict.Goals as goal

pub returns-in-Some : goal.returns-in-Some
returns-in-Some c = (c.requires.places, (c.requires.rows, (c.requires.domains, (c.requires.turned, rw c.in-Some.is at c.in_ok-point.ensures.found))))

pub returns-in-Some-chain : goal.returns-in-Some-chain
returns-in-Some-chain c = (
  c.requires.places,
  (
    c.requires.rows,
    (
      c.requires.domains,
      (
        c.requires.turned,
        (
          rw c.in_default.is at c.in_ok-point.ensures.none,
          (let f : SFits w64 c.in-Some-chain.chain.elements = omega (arith, ints) in let g : SFits w64 c.in-Some-chain.chain.edges = omega (arith, ints) in rw (to_z-of_z w64 c.in-Some-chain.chain.elements f, to_z-of_z w64 c.in-Some-chain.chain.edges g) (rw c.in-Some-chain.is at c.in_ok-chain.ensures.some)),
        ),
      ),
    ),
  ),
)

pub returns-in-None : goal.returns-in-None
returns-in-None c = record {
  places = c.requires.places;
  rows = c.requires.rows;
  domains = c.requires.domains;
  turned = c.requires.turned;
  unhung = rw c.in_default.is at c.in_ok-point.ensures.none;
  chained = rw c.in-None.is at c.in_ok-chain.ensures.none;
}
