-- Points of open polygons: near a given point v of the closed one, and common to two.
use lib.IntN.{pos, ◌*ℤ◌}
use lib.Signed.{◌≤ℤ◌}
use mathlib.Core.Path.{◌≡◌}
use mathlib.Core.List.{List}
use Rattle.std.specs.List.{AllByRecursion}
use Rattle.grid_geom.specs.declared.Point.{Point}
use Rattle.grid_geom.specs.declared.RatPoint.{RatPoint}
use Rattle.grid_geom.specs.declared.Edge.{Edge}
use Rattle.grid_geom.specs.Plane.{orient_rat, IsRational}
use Rattle.grid_geom.specs.Sides.{IsOnClosed}
use Rattle.grid_geom.specs.Segment.{IsOnSegment}
use Rattle.grid_geom.specs.Polygon.{sides, IsInPolygon}
use Rattle.grid_geom.specs.Closed.{IsOff}

-- the two stand for one place
pub record IsSamePlace (p q : RatPoint) : Type 0 where
  pub same_x : p.x *ℤ q.k ≡ q.x *ℤ p.k
  pub same_y : p.y *ℤ q.k ≡ q.y *ℤ p.k

-- v is in the closed polygon: on the closed left of each side
pub record IsInClosure (v : RatPoint) (corners : List Point) : Type 0 where
  pub left : AllByRecursion (λ e. pos 0 ≤ℤ orient_rat e.a e.b v) (sides corners)

-- the segment from v to w meets the edge at most in v
abbrev pub MeetsAtMostIn : RatPoint → RatPoint → Edge → Type 0
MeetsAtMostIn v w e = (m : RatPoint) → IsRational m → IsOnSegment m v w → IsOnClosed m e.a e.b
    → IsSamePlace m v

-- there is a rational point of the open polygon, off the edges, whose segment to v meets each edge at most in v
pub record HasPointNear (v : RatPoint) (corners : List Point) (es : List Edge) : Type 0 where
  pub at : RatPoint
  pub rational : IsRational at
  pub inside : IsInPolygon at corners
  pub off : IsOff at es
  pub free : AllByRecursion (MeetsAtMostIn v at) es

-- there is a rational point in both open polygons, off the edges
pub record HaveCommonPoint (first second : List Point) (es : List Edge) : Type 0 where
  pub at : RatPoint
  pub rational : IsRational at
  pub in_first : IsInPolygon at first
  pub in_second : IsInPolygon at second
  pub off : IsOff at es
