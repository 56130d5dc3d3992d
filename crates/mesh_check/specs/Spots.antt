-- The points of a mesh in the order of their places.
use Rattle.std.specs.Prelude.{◌≡◌, ◌⊎◌, ℕ, ◌<◌, List, length, slice_index_or, All, Any, ◌<ℤ◌}
use Rattle.grid_geom.specs.declared.Point.{Point}
use Rattle.mesh_check.specs.declared.spots.Spot.{Spot}

-- the place p is left of the place q, or below it in one column
abbrev pub IsLower : Point → Point → Type 0
IsLower p q = (p.x <ℤ q.x) ⊎ ((p.x ≡ q.x) × (p.y <ℤ q.y))

-- the place of a spot
abbrev pub spot_place : Spot → Point
spot_place s = record { x = s.x; y = s.y }

-- the spot s is before t: its place is lower, or the same and its position less
abbrev pub IsBefore : Spot → Spot → Type 0
IsBefore s t = IsLower (spot_place s) (spot_place t) ⊎ ((spot_place s ≡ spot_place t) × (s.index < t.index))

-- the spot has a position in the list, and the place of the point there
pub record IsSpotOf (points : List Point) (s : Spot) : Type 0 where
  pub in_list : s.index < length points
  pub place : (d : Point) → slice_index_or points s.index d ≡ spot_place s

-- the spots are those of the points, each once, in their order
pub record AreSpots (points : List Point) (spots : List Spot) : Type 0 where
  pub each : All (IsSpotOf points) spots
  pub all : (i : ℕ) → i < length points → Any (λ s. s.index ≡ i) spots
  pub ordered : (i j : ℕ) (d : Spot) → i < j → j < length spots
      → IsBefore (slice_index_or spots i d) (slice_index_or spots j d)
