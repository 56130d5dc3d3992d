use Rattle.std.proofs.Common.{◌<◌, length, arith}
use Rattle.geom_check.specs.Accepted.{AreTangled}
use Rattle.geom_check.proofs.LeastPairs.{first_partner, no_partner, tangled_by}
use Rattle.geom_check.proofs.pairs.tangled_with.Goals as goal

pub returns-then-tangle-clause-found : goal.returns-then-tangle-clause-found
returns-then-tangle-clause-found c = first_partner (AreTangled c.args.edges.now) c.args.i c.loop-j.j (tangled_by c.args.edges.now c.args.i c.loop-j.j _ _ (omega arith) (omega arith) (c.tangle.ensures.tangle.0 c.if-tangle.true)) c.loop-j.invariant

pub loop-j-preserved : goal.loop-j-preserved
loop-j-preserved c = no_partner (AreTangled c.args.edges.now) c.args.i c.loop-j.j (λ t. let h = c.tangle.ensures.tangle.1 (t.tangled _) in let j = c.if-tangle.false in cc) c.loop-j.invariant

pub returns-clause-none : goal.returns-clause-none
returns-clause-none c = λ j t. c.loop-j.invariant j (let h : j < length c.args.edges.now = t.in_list in omega arith) t
