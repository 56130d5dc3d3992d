-- The gap to the right of a riser that passes a strip, and its middle.
--
-- IsDivisor     the greatest common divisor of two numbers
-- from_corner   a place, counted from the lower left corner of the grid
-- IsLeastAt     the numbers of a place with the least k
-- HasEnd        some riser passes the strip to the right of another
-- IsToRight     the riser is one of them
-- IsGapEnd      the nearest of them
-- middle        the middle between two risers
-- IsGapAfter    the middle of the gap to the right of a riser, with the least k
use Rattle.std.specs.Prelude.{◌≡◌, ℕ, ◌*◌, ◌<◌, ◌≤◌, Option, Some, IfSome, MatchOption, List, length, slice_index_or, Contains, pos, ℤ, ◌+ℤ◌, ◌-ℤ◌, ◌*ℤ◌, ◌≤ℤ◌}
use Rattle.grid_geom.specs.declared.RatPoint.{RatPoint}
use Rattle.grid_geom.specs.Plane.{IsRational}
use Rattle.geom_check.specs.declared.risers.Riser.{Riser}
use Rattle.geom_check.specs.declared.risers.Passing.{Passing}
use Rattle.geom_check.specs.RiserOrder.{over, under, IsPassing, IsKey}
use Rattle.wind_law.specs.Near.{IsSamePlace}
use Rattle.geom_check.specs.declared.limits.TheConstants.{WIDTH}
use Rattle.grid_geom.specs.declared.TheConstants.{GRID}

-- the greatest common divisor of a and b: it divides both, and is a sum of multiples of them
pub record IsDivisor (a b g : ℕ) : Type 0 where
  pub part_a : ℕ
  pub part_b : ℕ
  pub divides_a : a ≡ g * part_a
  pub divides_b : b ≡ g * part_b
  pub times_a : ℤ
  pub times_b : ℤ
  pub sum : times_a *ℤ pos a +ℤ times_b *ℤ pos b ≡ pos g

-- the place that is x/k grid steps to the right of the lower left corner of the grid, and y/k above it
abbrev pub from_corner : ℕ → ℕ → ℕ → RatPoint
from_corner x y k = record { x = pos x -ℤ GRID *ℤ pos k; y = pos y -ℤ GRID *ℤ pos k; k = pos k }

-- q stands for the place of r, by the least k
pub record IsLeastAt (r q : RatPoint) : Type 0 where
  pub rational : IsRational q
  pub same : IsSamePlace q r
  pub least : (s : RatPoint) → IsRational s → IsSamePlace q s → q.k ≤ℤ s.k

-- some riser passes the strip to the right of another
pub record HasEnd (low high : ℤ) (rs : List Riser) (left : Passing) : Type 0 where
  pub end : Riser
  pub key : ℕ
  pub among : Contains rs end
  pub passing : IsPassing low high end
  pub key_is : IsKey (low +ℤ high) end key
  pub greater : left.key < key

-- a riser passes the strip to the right of another
pub record IsToRight (low high : ℤ) (rs : List Riser) (left right : Passing) : Type 0 where
  pub among : Contains rs right.riser
  pub passing : IsPassing low high right.riser
  pub key_is : IsKey (low +ℤ high) right.riser right.key
  pub greater : left.key < right.key

-- the nearest to another of the first risers that pass the strip to its right, or none
pub record IsGapEnd (low high : ℤ) (rs : List Riser) (count : ℕ) (left : Passing) (end : Option Passing) : Type 0 where
  pub to_right : IfSome end (IsToRight low high rs left)
  pub nearest : (i : ℕ) (d : Riser) (key : ℕ) → i < count
      → IsPassing low high (slice_index_or rs i d) → IsKey (low +ℤ high) (slice_index_or rs i d) key
      → left.key < key →
      MatchOption end ⊥ (λ right. right.key ≤ key)

-- the middle between two risers at the height y/2
abbrev pub middle : ℤ → Riser → Riser → RatPoint
middle y r s = record {
  x = over y r *ℤ under s +ℤ over y s *ℤ under r -ℤ pos WIDTH *ℤ (under r *ℤ under s);
  y = y *ℤ (under r *ℤ under s);
  k = pos 2 *ℤ (under r *ℤ under s);
}

-- the middle of the gap of a strip to the right of a riser, with the least k
pub record IsGapAfter (low high : ℤ) (rs : List Riser) (left : Passing) (at : RatPoint) : Type 0 where
  pub right : Passing
  pub end : IsGapEnd low high rs (length rs) left (Some right)
  pub middle_is : IsLeastAt (middle (low +ℤ high) left.riser right.riser) at
