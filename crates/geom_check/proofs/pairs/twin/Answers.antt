use Rattle.std.proofs.Common.{◌<◌, length, arith}
use Rattle.geom_check.specs.Accepted.{AreTogether}
use Rattle.geom_check.proofs.LeastPairs.{first_partner, no_partner, together_by, apart_by}
use Rattle.geom_check.proofs.pairs.twin.Goals as goal

pub returns-then-eq-clause-found : goal.returns-then-eq-clause-found
returns-then-eq-clause-found c = first_partner (AreTogether c.args.points.now) c.args.i c.loop-j.j (together_by c.args.points.now c.args.i c.loop-j.j _ _ (omega arith) (omega arith) c.if-eq.true c.eq.ensures) c.loop-j.invariant

pub loop-j-preserved : goal.loop-j-preserved
loop-j-preserved c = no_partner (AreTogether c.args.points.now) c.args.i c.loop-j.j (apart_by c.args.points.now c.args.i c.loop-j.j _ _ c.if-eq.false c.eq.ensures) c.loop-j.invariant

pub returns-clause-none : goal.returns-clause-none
returns-clause-none c = λ j t. c.loop-j.invariant j (let h : j < length c.args.points.now = t.in_list in omega arith) t
