-- The places and lines of two fronts, for tests: a triangle, and a square with a square hole, whose lines go the other way round.
use Rattle.std.specs.Prelude.{ℕ, List, [], ◌∷◌, ◌++◌}
use Rattle.grid_geom.specs.declared.Point.{Point}
use Rattle.state_law.specs.Worked.{place}

abbrev pub triangle_points : List Point
triangle_points = place 0 0 ∷ place 640000 0 ∷ place 0 640000 ∷ []

abbrev pub triangle_lines : List (ℕ × ℕ)
triangle_lines = (1, 2) ∷ (2, 3) ∷ (3, 1) ∷ []

abbrev pub square_points : List Point
square_points = place 0 0 ∷ place 192000 0 ∷ place 192000 192000 ∷ place 0 192000 ∷ []

abbrev pub hole_points : List Point
hole_points = place 64000 64000 ∷ place 128000 64000 ∷ place 128000 128000 ∷ place 64000 128000 ∷ []

abbrev pub ring_points : List Point
ring_points = square_points ++ hole_points

abbrev pub ring_lines : List (ℕ × ℕ)
ring_lines = (1, 2) ∷ (2, 3) ∷ (3, 4) ∷ (4, 1) ∷ (6, 5) ∷ (7, 6) ∷ (8, 7) ∷ (5, 8) ∷ []
