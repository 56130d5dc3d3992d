use Rattle.grid_geom.proofs.Booleans.{point_ne}
use Rattle.grid_geom.proofs.segments.on_open.Goals as goal

pub returns-else-ne-2 : goal.returns-else-ne-2
returns-else-ne-2 c = (λ t. absurd (cc), λ h. absurd (h.not_b (point_ne c.args.p c.args.b c.ne-then-ne.result c.ne-then-ne.ensures c.if-ne-2.false)))

pub returns-else-ne : goal.returns-else-ne
returns-else-ne c = (λ t. absurd (cc), λ h. absurd (h.not_a (point_ne c.args.p c.args.a c.ne.result c.ne.ensures c.if-ne.false)))
