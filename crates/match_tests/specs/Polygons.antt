-- Polygons whose sides may be a front.
use Rattle.std.specs.Prelude.{◌^◌, List, pos, ◌≤ℤ◌}
use Rattle.std.specs.List.{All, IsDistinct}
use Rattle.grid_geom.specs.declared.Point.{Point}
use Rattle.grid_geom.specs.Bounds.{IsOnGrid}
use Rattle.grid_geom.specs.Closed.{same_point}
use Rattle.grid_geom.specs.Area.{shoelace}
use Rattle.grid_geom.specs.Polygon.{sides, IsStrictlyConvex}

-- different corners on the grid, strictly convex, round an area that leaves room for line numbers
pub record IsPolygon (corners : List Point) : Type 0 where
  pub on_grid : All IsOnGrid corners
  pub different : IsDistinct same_point corners
  pub convex : IsStrictlyConvex corners
  pub small : shoelace (sides corners) ≤ℤ pos (2 ^ 50)
