use Rattle.grid_geom.proofs.Booleans.{point_eq, point_same}
use Rattle.grid_geom.proofs.segments.same_pair.Goals as goal

pub returns-then-eq : goal.returns-then-eq
returns-then-eq c = (λ t. (point_eq c.args.a c.args.c c.eq.result c.eq.ensures c.if-eq.true, point_eq c.args.b c.args.d c.eq-then-eq.result c.eq-then-eq.ensures t), λ h. point_same c.args.b c.args.d c.eq-then-eq.result c.eq-then-eq.ensures h.1)
