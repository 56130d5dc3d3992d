-- Which geometries are accepted.
--
-- IsPlanar     what is asked of points and segments on the grid
-- IsAccepted   what is asked of a file
use Rattle.std.specs.Prelude.{◌≡◌, ◌≢◌, ◌⊎◌, ℕ, ◌<◌, List, length, slice_index_or, All, Any, pos, ℤ}
use Rattle.grid_geom.specs.declared.Point.{Point}
use Rattle.grid_geom.specs.declared.RatPoint.{RatPoint}
use Rattle.grid_geom.specs.declared.Edge.{Edge}
use Rattle.grid_geom.specs.Plane.{IsRational}
use Rattle.grid_geom.specs.Sides.{DoTangle}
use Rattle.grid_geom.specs.Winding.{wind}
use Rattle.grid_geom.specs.Closed.{IsClosed, IsOff}
use Rattle.in2d_reader.specs.declared.geometry.SegmentRow.{SegmentRow}
use Rattle.in2d_reader.specs.declared.geometry.RawGeometry.{RawGeometry}
use Rattle.geom_check.specs.declared.kinds.Segment.{Segment}
use Rattle.geom_check.specs.Shift.{FitsRow, IsShift}
use Rattle.geom_check.specs.Placed.{points_of, segments_of}
use Rattle.geom_check.specs.Boundary.{edges_of, boundary}
use Rattle.geom_check.specs.declared.limits.TheConstants.{COARSEST}

-- the points i and j, from 0, are at one place
pub record AreTogether (points : List Point) (i j : ℕ) : Type 0 where
  pub ordered : i < j
  pub in_list : j < length points
  pub together : (d : Point) → slice_index_or points i d ≡ slice_index_or points j d

-- two edges tangle
abbrev pub DoEdgesTangle : Edge → Edge → Type 0
DoEdgesTangle e f = DoTangle e.a e.b f.a f.b

-- the edges i and j, from 0, share more than a common end
pub record AreTangled (edges : List Edge) (i j : ℕ) : Type 0 where
  pub ordered : i < j
  pub in_list : j < length edges
  pub tangled : (d : Edge) → DoEdgesTangle (slice_index_or edges i d) (slice_index_or edges j d)

-- points have different places
abbrev pub ArePlacesDifferent : List Point → Type 0
ArePlacesDifferent points = (i j : ℕ) → ¬ AreTogether points i j

-- no segment has one domain, or the outside, on both sides
abbrev pub HasDifferentDomains : Segment → Type 0
HasDifferentDomains s = s.left ≢ s.right

-- a segment has two ends
abbrev pub HasTwoEnds : Segment → Type 0
HasTwoEnds s = s.p ≢ s.q

-- no two segments share more than a common end
abbrev pub AreApart : List Edge → Type 0
AreApart edges = (i j : ℕ) → ¬ AreTangled edges i j

-- the boundary of each domain is closed
abbrev pub AreClosed : List Point → List Segment → Type 0
AreClosed points segments = (domain : ℕ) → 0 < domain → IsClosed (boundary points domain segments)

-- a winding number of a domain: 1 inside, and 0 outside
abbrev pub IsZeroOrOne : ℤ → Type 0
IsZeroOrOne n = (n ≡ pos 0) ⊎ (n ≡ pos 1)

-- at every place off all segments a domain has the winding number 0 or 1
abbrev pub WindsAtMostOnce : List Point → List Segment → ℕ → Type 0
WindsAtMostOnce points segments domain = (q : RatPoint) → IsRational q
    → IsOff q (edges_of points segments) → IsZeroOrOne (wind q (boundary points domain segments))

-- two domains have the winding number 1 at a place
pub record DoOverlap (points : List Point) (segments : List Segment) (q : RatPoint) : Type 0 where
  pub c : ℕ
  pub d : ℕ
  pub positive : 0 < c
  pub ordered : c < d
  pub in_c : wind q (boundary points c segments) ≡ pos 1
  pub in_d : wind q (boundary points d segments) ≡ pos 1

-- points and segments on the grid are those of a planar map: segments share nothing but ends, and each place off them
-- is in one domain or in none
pub record IsPlanar (points : List Point) (segments : List Segment) : Type 0 where
  pub places : ArePlacesDifferent points
  pub sides : All HasDifferentDomains segments
  pub ends : All HasTwoEnds segments
  pub apart : AreApart (edges_of points segments)
  pub closed : AreClosed points segments
  pub winding : (domain : ℕ) → 0 < domain → WindsAtMostOnce points segments domain
  pub separate : (q : RatPoint) → IsRational q → IsOff q (edges_of points segments)
      → ¬ DoOverlap points segments q

-- a segment with a domain on some side
abbrev pub NamesDomain : SegmentRow → Type 0
NamesDomain row = (0 < row.left) ⊎ (0 < row.right)

-- a file whose geometry is accepted: some segment names a domain, each coordinate fits at the coarsest shift, and on the
-- grid, at the file's shift, points and segments are those of a planar map
pub record IsAccepted (raw : RawGeometry) : Type 0 where
  pub domain : Any NamesDomain raw.segments
  pub fits : All (FitsRow COARSEST) raw.points
  pub planar : (shift : ℤ) → IsShift shift raw.points
      → IsPlanar (points_of shift raw.points) (segments_of shift raw)
