use Rattle.wind_law.proofs.Polygons.{polygon_inside, polygon_outside, sides_closed}
use Rattle.grid_geom.proofs.Convex.{triangle_convex}
use Rattle.wind_law.proofs.laws.law_polygon.Goals as goal

pub returns : goal.returns
returns c = record { inside = polygon_inside; outside = polygon_outside; triangle = triangle_convex; closed = sides_closed }
