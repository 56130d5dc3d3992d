use Rattle.grid_geom.proofs.Convex.{inside_test}
use Rattle.grid_geom.proofs.polygons.in_open.Goals as goal

pub returns : goal.returns
returns c = inside_test c.args.q c.args.corners.now c.inside_each_side.result c.inside_each_side.ensures
