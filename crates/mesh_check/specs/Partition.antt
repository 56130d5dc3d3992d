-- Winding numbers of elements, added up.
use Rattle.std.specs.Prelude.{List, [], ◌∷◌, ℤ, pos, ◌+ℤ◌}
use Rattle.grid_geom.specs.declared.Point.{Point}
use Rattle.grid_geom.specs.declared.RatPoint.{RatPoint}
use Rattle.grid_geom.specs.Polygon.{sides}
use Rattle.grid_geom.specs.Winding.{wind}

-- the sum of the winding numbers of polygons round a place
abbrev pub winds : RatPoint → List (List Point) → ℤ
winds q [] = pos 0
winds q (corners ∷ polygons) = wind q (sides corners) +ℤ winds q polygons
