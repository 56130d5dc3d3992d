-- Polygons by their corners, counterclockwise: the sides, strict convexity, the open polygon, and segments apart from it.
use lib.Signed.{lt_z, le_z}
use Rattle.std.specs.Prelude.{Bool, ◌&&◌, ◌≢◌, ℕ, ◌+◌, ◌%◌, ◌<◌, ◌≤◌, List, [], ◌∷◌, length, slice_index_or, pos, ◌<ℤ◌, ◌≤ℤ◌}
use Rattle.std.specs.List.{All, Any, AllByRecursion}
use Rattle.grid_geom.specs.declared.Point.{Point}
use Rattle.grid_geom.specs.declared.RatPoint.{RatPoint}
use Rattle.grid_geom.specs.declared.Edge.{Edge}
use Rattle.grid_geom.specs.Plane.{orient, orient_rat, IsRational}
use Rattle.grid_geom.specs.Sides.{IsOnClosed}

-- the edges from `from` by the corners of the list in their order, and on to `first`
abbrev pub way_round : Point → Point → List Point → List Edge
way_round first from [] = record { a = from; b = first } ∷ []
way_round first from (to ∷ corners) = record { a = from; b = to } ∷ way_round first to corners

-- the sides: from each corner to the next, and from the last to the first
abbrev pub sides : List Point → List Edge
sides [] = []
sides (first ∷ corners) = way_round first first corners

-- the corner at a position
abbrev pub corner_at : List Point → ℕ → Point
corner_at corners i = slice_index_or corners i (record { x = pos 0; y = pos 0 })

-- the position after i, round the polygon
abbrev pub after : List Point → ℕ → ℕ
after corners i = (i + 1) % length corners

-- each corner that is not an end of the side from the corner at i is strictly left of it
abbrev pub IsLeftOfRest : List Point → ℕ → Type 0
IsLeftOfRest corners i = (j : ℕ) → j < length corners → j ≢ i → j ≢ after corners i →
    pos 0 <ℤ orient (corner_at corners i) (corner_at corners (after corners i))
    (corner_at corners j)

-- at least three corners, and each that is not an end of a side is strictly left of it
pub record IsStrictlyConvex (corners : List Point) : Type 0 where
  pub enough : 3 ≤ length corners
  pub left : (i : ℕ) → i < length corners → IsLeftOfRest corners i

-- q is in the open polygon: strictly left of each side
pub record IsInPolygon (q : RatPoint) (corners : List Point) : Type 0 where
  pub left : AllByRecursion (λ e. pos 0 <ℤ orient_rat e.a e.b q) (sides corners)

-- a-b is apart from the open polygon: both ends are on the closed outer side of some side, or all corners are on one closed side of the line a-b
pub data IsApart (a b : Point) (corners : List Point) : Type 0 where
  outside_a_side : Any (λ e. (orient e.a e.b a ≤ℤ pos 0) × (orient e.a e.b b ≤ℤ pos 0))
      (sides corners) → IsApart a b corners
  all_left : All (λ c. pos 0 ≤ℤ orient a b c) corners → IsApart a b corners
  all_right : All (λ c. orient a b c ≤ℤ pos 0) corners → IsApart a b corners

-- some rational point is on the closed segment a-b and in the open polygon
pub record DoesEnter (a b : Point) (corners : List Point) : Type 0 where
  pub at : RatPoint
  pub rational : IsRational at
  pub on : IsOnClosed at a b
  pub inside : IsInPolygon at corners

-- ---- tests of one side
-- both ends of a-b are on the closed outer side of the side e
abbrev pub is_outside : Point → Point → Edge → Bool
is_outside a b e = le_z (orient e.a e.b a) (pos 0) && le_z (orient e.a e.b b) (pos 0)

-- q is strictly left of the side e
abbrev pub is_left : Point → Edge → Bool
is_left q e = lt_z (pos 0) (orient e.a e.b q)
