use mathlib.Core.Path.{sym, ◌∙◌}
use Rattle.grid_geom.proofs.Booleans.{clash}
use Rattle.grid_geom.proofs.Entering.{right_apart, outside_apart, apart_outside}
use Rattle.grid_geom.proofs.polygons.is_apart.Goals as goal

pub returns-then-all_left-2 : goal.returns-then-all_left-2
returns-then-all_left-2 c = (λ t. right_apart c.args.a c.args.b c.args.corners.now (c.all_left-else-all_left.ensures.0 t), λ h. c.if-all_left-2.true)

pub returns-else-all_left-2 : goal.returns-else-all_left-2
returns-else-all_left-2 c = (
  λ t. outside_apart c.args.a c.args.b c.args.corners.now (sym c.outside_a_side.ensures ∙ t),
  λ h. c.outside_a_side.ensures ∙ apart_outside c.args.a c.args.b c.args.corners.now (λ l. clash c.all_left.result c.if-all_left.false (c.all_left.ensures.1 l)) (λ r. clash c.all_left-else-all_left.result c.if-all_left-2.false (c.all_left-else-all_left.ensures.1 r)) h,
)
