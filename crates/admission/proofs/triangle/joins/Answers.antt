use Rattle.std.proofs.Common.{ap}
use Rattle.grid_geom.specs.declared.Edge.{Edge}
use Rattle.grid_geom.proofs.Booleans.{point_eq, point_same}
use Rattle.admission.proofs.triangle.joins.Goals as goal

pub returns-then-eq : goal.returns-then-eq
returns-then-eq c = (
  λ t. let e = point_eq c.args.line.now.a c.args.a c.eq.result c.eq.ensures c.if-eq.true in let f = point_eq c.args.line.now.b c.args.b c.eq-then-eq.result c.eq-then-eq.ensures t in λ i. record { a = e i; b = f i },
  λ h. point_same c.args.line.now.b c.args.b c.eq-then-eq.result c.eq-then-eq.ensures (ap (λ (e : Edge). e.b) h),
)
