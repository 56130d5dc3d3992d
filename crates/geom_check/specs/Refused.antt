-- Why a geometry is refused: what holds before the first fault, and the fault at its least place.
--
-- IsFirstFailing, IsLeastPair   the least place, from 1, of a fault
-- IsLeastOpen, IsLeastSide      the least domain with a fault, and where
-- PastPlaces .. PastWindings    what holds where the checks before have passed
-- IsFault                       the first fault of points and segments on the grid
-- IsRefusal                     what each refusal says of the file
use Rattle.std.specs.Prelude.{◌≡◌, ◌⊎◌, ℕ, ◌+◌, ◌<◌, ◌≤◌, List, length, slice_index_or, All, Any, ℤ}
use Rattle.grid_geom.specs.declared.Point.{Point}
use Rattle.grid_geom.specs.declared.RatPoint.{RatPoint}
use Rattle.grid_geom.specs.Closed.{IsClosed, leaving, arriving}
use Rattle.grid_geom.specs.Winding.{wind}
use Rattle.in2d_reader.specs.declared.geometry.RawGeometry.{RawGeometry}
use Rattle.geom_check.specs.declared.kinds.Segment.{Segment}
use Rattle.geom_check.specs.declared.refusal.GeomRefusal.{GeomRefusal}
use Rattle.geom_check.specs.declared.refusal.GeomRefusal.TheVariants.{NoDomain, TooLarge, SamePlace, SameSides, NoLength, Meet, OpenAt, Side, Overlap, Memory}
use Rattle.geom_check.specs.Shift.{FitsRow, IsShift}
use Rattle.geom_check.specs.Placed.{points_of, segments_of}
use Rattle.geom_check.specs.Boundary.{edges_of, boundary}
use Rattle.geom_check.specs.Accepted.{AreTogether, AreTangled, ArePlacesDifferent, HasDifferentDomains, HasTwoEnds, AreApart, AreClosed, WindsAtMostOnce, IsZeroOrOne, DoOverlap, NamesDomain}
use Rattle.geom_check.specs.Strips.{IsWitness}
use Rattle.geom_check.specs.declared.limits.TheConstants.{COARSEST}

-- n is the number, from 1, of the first item of a list at which P fails
pub record IsFirstFailing {A : Type 0} (P : A → Type 0) (items : List A) (n : ℕ) : Type 0 where
  pub index : ℕ
  pub number : n ≡ index + 1
  pub in_list : index < length items
  pub fails : (d : A) → ¬ P (slice_index_or items index d)
  pub before : (k : ℕ) (d : A) → k < index → P (slice_index_or items k d)

-- i and j are the numbers, from 1, of the least pair with P
pub record IsLeastPair (P : ℕ → ℕ → Type 0) (i j : ℕ) : Type 0 where
  pub first : ℕ
  pub second : ℕ
  pub first_number : i ≡ first + 1
  pub second_number : j ≡ second + 1
  pub holds : P first second
  pub least : (k l : ℕ) → P k l → (first < k) ⊎ ((first ≡ k) × (second ≤ l))

-- j is the least with P beside i
pub record IsFirstPartner (P : ℕ → ℕ → Type 0) (i j : ℕ) : Type 0 where
  pub holds : P i j
  pub least : (l : ℕ) → P i l → j ≤ l

-- as many edges of a domain's boundary leave a point as arrive
abbrev pub IsBalancedAt : List Point → List Segment → ℕ → Point → Type 0
IsBalancedAt points segments domain p =
    leaving p (boundary points domain segments) ≡ arriving p (boundary points domain segments)

-- the least domain whose boundary is open, and the first row at which it is
pub record IsLeastOpen (points : List Point) (segments : List Segment) (point domain : ℕ) : Type 0 where
  pub positive : 0 < domain
  pub open_at : IsFirstFailing (IsBalancedAt points segments domain) points point
  pub least : (d : ℕ) → 0 < d → d < domain → IsClosed (boundary points d segments)

-- the least domain with a winding number other than 0 and 1, and where it has one
pub record IsLeastSide (points : List Point) (segments : List Segment) (domain : ℕ) (at : RatPoint) : Type 0 where
  pub positive : 0 < domain
  pub witness : IsWitness (λ q. ¬ IsZeroOrOne (wind q (boundary points domain segments)))
      (edges_of points segments) at
  pub least : (d : ℕ) → 0 < d → d < domain → WindsAtMostOnce points segments d

-- ---- what holds where the checks before a fault have passed, and P: each asks one fact more than the one before it
-- points have different places
abbrev pub PastPlaces : List Point → Type 0 → Type 0
PastPlaces points P = ArePlacesDifferent points × P

-- and no segment has one domain on both sides
abbrev pub PastDomains : List Point → List Segment → Type 0 → Type 0
PastDomains points segments P = PastPlaces points (All HasDifferentDomains segments × P)

-- and each segment has two ends
abbrev pub PastEnds : List Point → List Segment → Type 0 → Type 0
PastEnds points segments P = PastDomains points segments (All HasTwoEnds segments × P)

-- and no two segments share more than an end
abbrev pub PastPairs : List Point → List Segment → Type 0 → Type 0
PastPairs points segments P = PastEnds points segments (AreApart (edges_of points segments) × P)

-- and boundaries are closed
abbrev pub PastBoundaries : List Point → List Segment → Type 0 → Type 0
PastBoundaries points segments P = PastPairs points segments (AreClosed points segments × P)

-- and each domain winds at most once
abbrev pub PastWindings : List Point → List Segment → Type 0 → Type 0
PastWindings points segments P =
    PastBoundaries points segments (((d : ℕ) → 0 < d → WindsAtMostOnce points segments d) × P)

-- the first fault of points and segments on the grid
abbrev pub IsFault : GeomRefusal → List Point → List Segment → Type 0
IsFault NoDomain points segments = ⊥
IsFault (TooLarge point) points segments = ⊥
IsFault (SamePlace i j) points segments = IsLeastPair (AreTogether points) i j
IsFault (SameSides segment) points segments =
    PastPlaces points (IsFirstFailing HasDifferentDomains segments segment)
IsFault (NoLength segment) points segments =
    PastDomains points segments (IsFirstFailing HasTwoEnds segments segment)
IsFault (Meet i j) points segments =
    PastEnds points segments (IsLeastPair (AreTangled (edges_of points segments)) i j)
IsFault (OpenAt point domain) points segments =
    PastPairs points segments (IsLeastOpen points segments point domain)
IsFault (Side domain at) points segments =
    PastBoundaries points segments (IsLeastSide points segments domain at)
IsFault (Overlap at) points segments =
    PastWindings points segments
    (IsWitness (DoOverlap points segments) (edges_of points segments) at)
IsFault Memory points segments = ⊥

-- a fault on the grid, at the file's shift
pub record IsPlacedFault (raw : RawGeometry) (refusal : GeomRefusal) : Type 0 where
  pub domain : Any NamesDomain raw.segments
  pub fits : All (FitsRow COARSEST) raw.points
  pub fault : (shift : ℤ) → IsShift shift raw.points
      → IsFault refusal (points_of shift raw.points) (segments_of shift raw)

-- `place` refuses for a coordinate that doesn't fit, or for want of memory
abbrev pub IsPlaceRefusal : RawGeometry → GeomRefusal → Type 0
IsPlaceRefusal raw (TooLarge point) = IsFirstFailing (FitsRow COARSEST) raw.points point
IsPlaceRefusal raw Memory = Unit {0}
IsPlaceRefusal raw _ = ⊥

-- the first fault of a file
abbrev pub IsRefusal : RawGeometry → GeomRefusal → Type 0
IsRefusal raw NoDomain = ¬ (Any NamesDomain raw.segments)
IsRefusal raw (TooLarge point) = Any NamesDomain raw.segments
    × IsFirstFailing (FitsRow COARSEST) raw.points point
IsRefusal raw Memory = Unit {0}
IsRefusal raw refusal = IsPlacedFault raw refusal

-- the first fault of winding numbers
abbrev pub IsWindingFault : List Point → List Segment → GeomRefusal → Type 0
IsWindingFault points segments (Side domain at) = IsLeastSide points segments domain at
IsWindingFault points segments (Overlap at) = ((d : ℕ) → 0 < d → WindsAtMostOnce points segments d)
    × IsWitness (DoOverlap points segments) (edges_of points segments) at
IsWindingFault points segments Memory = Unit {0}
IsWindingFault points segments _ = ⊥

-- a fault on the grid, or want of memory
abbrev pub IsFaultOrMemory : List Point → List Segment → GeomRefusal → Type 0
IsFaultOrMemory points segments Memory = Unit {0}
IsFaultOrMemory points segments refusal = IsFault refusal points segments
