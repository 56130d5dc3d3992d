-- Lines that part an edge from points.
use lib.IntN.{pos}
use lib.Signed.{◌<ℤ◌, ◌≤ℤ◌}
use Rattle.grid_geom.specs.declared.Point.{Point}
use Rattle.grid_geom.specs.declared.RatPoint.{RatPoint}
use Rattle.grid_geom.specs.declared.Edge.{Edge}
use Rattle.grid_geom.specs.Plane.{orient, orient_rat}

-- the line from c to d has the edge on its closed right side, and p and q on its left; c and d have whole coordinates of any size
pub record IsParted (p q : RatPoint) (e : Edge) : Type 0 where
  pub c : Point
  pub d : Point
  pub start_right : orient c d e.a ≤ℤ pos 0
  pub end_right : orient c d e.b ≤ℤ pos 0
  pub p_left : pos 0 <ℤ orient_rat c d p
  pub q_left : pos 0 <ℤ orient_rat c d q
