-- Segments that pass from the left of an edge to its right, and points on both sides near a point of it.
use lib.IntN.{pos, ◌-ℤ◌}
use lib.Signed.{◌<ℤ◌}
use mathlib.Core.List.{List}
use mathlib.Core.Path.{◌≡◌}
use Rattle.std.specs.List.{AllByRecursion}
use Rattle.grid_geom.specs.declared.Point.{Point}
use Rattle.grid_geom.specs.declared.RatPoint.{RatPoint}
use Rattle.grid_geom.specs.declared.Edge.{Edge}
use Rattle.grid_geom.specs.Plane.{orient_rat, IsRational}
use Rattle.grid_geom.specs.Sides.{IsOnClosed}
use Rattle.grid_geom.specs.Segment.{IsOnSegment}
use Rattle.grid_geom.specs.Sharing.{IsAt}
use Rattle.grid_geom.specs.Polygon.{IsInPolygon}
use Rattle.grid_geom.specs.Winding.{wind}
use Rattle.grid_geom.specs.Closed.{IsOff}
use Rattle.wind_law.specs.Chains.{edge, times}
use Rattle.wind_law.specs.Near.{MeetsAtMostIn}

-- p is strictly left and q strictly right of a-b, and the segment p-q meets the open segment a-b
pub record DoesPass (p q : RatPoint) (a b : Point) : Type 0 where
  pub p_left : pos 0 <ℤ orient_rat a b p
  pub q_right : orient_rat a b q <ℤ pos 0
  pub at : RatPoint
  pub rational : IsRational at
  pub on_way : IsOnSegment at p q
  pub on_edge : IsOnClosed at a b
  pub not_a : ¬ (IsAt at a)
  pub not_b : ¬ (IsAt at b)

-- unless it is a-b or b-a, the edge has no rational point of the segment p-q
abbrev pub IsMissed : RatPoint → RatPoint → Point → Point → Edge → Type 0
IsMissed p q a b e = ¬ (e ≡ edge a b) → ¬ (e ≡ edge b a) → (m : RatPoint) → IsRational m
    → IsOnSegment m p q → ¬ (IsOnClosed m e.a e.b)

-- v is a point of the open segment a-b, and q is strictly right of it
pub record IsRightAt (v q : RatPoint) (a b : Point) : Type 0 where
  pub on_edge : IsOnClosed v a b
  pub not_a : ¬ (IsAt v a)
  pub not_b : ¬ (IsAt v b)
  pub q_right : orient_rat a b q <ℤ pos 0

-- the winding number in `es` falls from p to q by the number of edges a-b less that of edges b-a
abbrev pub DoesFall : RatPoint → RatPoint → Point → Point → List Edge → Type 0
DoesFall p q a b es = wind p es -ℤ wind q es
    ≡ pos (times (edge a b) es) -ℤ pos (times (edge b a) es)

-- left of a-b and in the open polygon there is a rational point, off the edges `others`, whose segment to v meets each of them
-- at most in v, and from which the winding number in `es` falls to q as across a-b
pub record HasPointAcross (v q : RatPoint) (a b : Point) (corners : List Point) (es others : List Edge) : Type 0 where
  pub at : RatPoint
  pub rational : IsRational at
  pub left : pos 0 <ℤ orient_rat a b at
  pub inside : IsInPolygon at corners
  pub off : IsOff at others
  pub free : AllByRecursion (MeetsAtMostIn v at) others
  pub falls : DoesFall at q a b es
