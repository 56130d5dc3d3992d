-- The centre of a polygon: the sum of its corners over their number.
use lib.IntN.{ℤ, pos, ◌+ℤ◌}
use lib.ListN.{length}
use mathlib.Core.List.{List, [], ◌∷◌}
use Rattle.grid_geom.specs.declared.Point.{Point}
use Rattle.grid_geom.specs.declared.RatPoint.{RatPoint}

abbrev pub sum_x : List Point → ℤ
sum_x [] = pos 0
sum_x (c ∷ cs) = c.x +ℤ sum_x cs

abbrev pub sum_y : List Point → ℤ
sum_y [] = pos 0
sum_y (c ∷ cs) = c.y +ℤ sum_y cs

abbrev pub centre : List Point → RatPoint
centre corners = record { x = sum_x corners; y = sum_y corners; k = pos (length corners) }
