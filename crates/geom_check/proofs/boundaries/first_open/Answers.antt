use Rattle.std.proofs.Common.{◌∙◌, arith}
use Rattle.geom_check.proofs.Closing.{closed_next, closed_all}
use Rattle.geom_check.proofs.boundaries.first_open.Goals as goal

pub loop-domain-preserved : goal.loop-domain-preserved
loop-domain-preserved c = closed_next c.args.points.now c.args.segments.now c.loop-domain.domain c.deref.result.now (c.deref.ensures.value ∙ c.in_ok-edges.ensures) c.requires (rw c.in_default.is at c.in_ok-point.ensures.none) c.loop-domain.invariant

pub returns-clause-none : goal.returns-clause-none
returns-clause-none c = closed_all c.args.points.now c.args.segments.now c.loop-domain.domain (omega arith) c.requires c.loop-domain.invariant
