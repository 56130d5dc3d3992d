use Rattle.std.proofs.Common.{ap}
use native.Mathlib.Omega.{arith}
use Rattle.std.proofs.lemmas.Int.{ints, clamps}
use Rattle.grid_geom.specs.declared.Bounds.{Bounds}
use Rattle.free_zone.proofs.Boxed.{widened}
use Rattle.free_zone.proofs.around.extended.Goals as goal

pub returns-clause-holds : goal.returns-clause-holds
returns-clause-holds c =
    let left = ap (λ (b : Bounds). b.lo.x) c.box_between.ensures in
    let right = ap (λ (b : Bounds). b.hi.x) c.box_between-2.ensures in
    let below = ap (λ (b : Bounds). b.lo.y) c.box_between.ensures in
    let above = ap (λ (b : Bounds). b.hi.y) c.box_between-2.ensures in
    record {
      right_of_least = (omega (arith, ints, clamps, left), tt);
      left_of_greatest = (omega (arith, ints, clamps, right), tt);
      above_least = (omega (arith, ints, clamps, below), tt);
      below_greatest = (omega (arith, ints, clamps, above), tt);
    }

pub returns-clause-keeps : goal.returns-clause-keeps
returns-clause-keeps c =
    let left = ap (λ (b : Bounds). b.lo.x) c.box_between.ensures in
    let right = ap (λ (b : Bounds). b.hi.x) c.box_between-2.ensures in
    let below = ap (λ (b : Bounds). b.lo.y) c.box_between.ensures in
    let above = ap (λ (b : Bounds). b.hi.y) c.box_between-2.ensures in
    λ corners h. widened c.args.bounds.now.lo c.args.bounds.now.hi c.box_between.result.lo c.box_between-2.result.hi corners
    (omega (arith, ints, clamps, left)) (omega (arith, ints, clamps, right)) (omega (arith, ints, clamps, below)) (omega (arith, ints, clamps, above)) h
