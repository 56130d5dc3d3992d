use Rattle.grid_geom.proofs.Entering.{apart_test}
use Rattle.grid_geom.proofs.polygons.apart.Goals as goal

pub returns-clause-none : goal.returns-clause-none
returns-clause-none c = (apart_test c.args.a c.args.b c.args.corners.now c.is_apart.result c.requires.different c.requires.convex c.is_apart.ensures).0

pub returns-clause-enters : goal.returns-clause-enters
returns-clause-enters c = (apart_test c.args.a c.args.b c.args.corners.now c.is_apart.result c.requires.different c.requires.convex c.is_apart.ensures).1
