use borrow.Author.Count.{below_more}
use Rattle.grid_geom.specs.Polygon.{IsLeftOfRest}
use Rattle.grid_geom.proofs.polygons.strictly_convex.Goals as goal

pub loop-i-preserved : goal.loop-i-preserved
loop-i-preserved c = below_more (IsLeftOfRest c.args.corners.now) c.loop-i.i c.loop-i.invariant (c.rest_left.ensures.0 c.if-not-rest_left.false)
