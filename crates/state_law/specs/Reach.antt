-- Two fronts that are alike in a box: what a candidate in that box can tell of them.
use lib.IntN.{◌*ℤ◌}
use lib.Signed.{◌≤ℤ◌}
use mathlib.Core.Path.{◌≡◌}
use mathlib.Core.List.{List}
use Rattle.std.specs.List.{AllByRecursion}
use Rattle.grid_geom.specs.declared.Point.{Point}
use Rattle.grid_geom.specs.declared.RatPoint.{RatPoint}
use Rattle.grid_geom.specs.declared.Edge.{Edge}
use Rattle.grid_geom.specs.Plane.{IsRational}
use Rattle.grid_geom.specs.Sides.{DoBoxesMeet}
use Rattle.grid_geom.specs.Polygon.{IsStrictlyConvex}
use Rattle.grid_geom.specs.Area.{shoelace}
use Rattle.grid_geom.specs.Winding.{wind}
use Rattle.state_law.specs.Free.{IsIn}
use Rattle.state_law.specs.Saved.{AreInBox, IsCorner}
use Rattle.state_law.specs.Refusal.{Attempt}

-- the rational point is in the closed box from lo to hi
pub record IsInReach (lo hi : Point) (q : RatPoint) : Type 0 where
  pub right_of_least : (lo.x *ℤ q.k) ≤ℤ q.x
  pub left_of_greatest : q.x ≤ℤ (hi.x *ℤ q.k)
  pub above_least : (lo.y *ℤ q.k) ≤ℤ q.y
  pub below_greatest : q.y ≤ℤ (hi.y *ℤ q.k)

-- front and after have the same lines whose boxes meet the box, equal winding numbers in it, and after has no greater area
pub record AreAlikeIn (lo hi : Point) (front after : List Edge) : Type 0 where
  pub kept : (e : Edge) → DoBoxesMeet e.a e.b lo hi → IsIn e front → IsIn e after
  pub known : (e : Edge) → DoBoxesMeet e.a e.b lo hi → IsIn e after → IsIn e front
  pub winds : (q : RatPoint) → IsRational q → IsInReach lo hi q → wind q front ≡ wind q after
  pub areas : shoelace after ≤ℤ shoelace front

-- the attempt's places are in the box
pub record IsWithinReach (lo hi : Point) (t : Attempt) : Type 0 where
  pub mapped : AreInBox lo hi t.mapped
  pub lines_join : AllByRecursion (λ e. IsCorner e.a t.mapped × IsCorner e.b t.mapped) t.lines
  pub zone : AreInBox lo hi t.zone
  pub zone_turned : IsStrictlyConvex t.zone
  pub elements : AllByRecursion (AreInBox lo hi) t.elements
