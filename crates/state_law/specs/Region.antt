-- A front as the edge of a region of the plane, by itself: without boundary, elements and further edges.
use lib.IntN.{pos}
use mathlib.Core.Path.{◌≡◌}
use mathlib.Core.List.{List}
use mathlib.Core.Logic.{◌⊎◌}
use Rattle.std.specs.List.{AllByRecursion}
use Rattle.grid_geom.specs.declared.Point.{Point}
use Rattle.grid_geom.specs.declared.RatPoint.{RatPoint}
use Rattle.grid_geom.specs.declared.Edge.{Edge}
use Rattle.grid_geom.specs.Plane.{IsRational}
use Rattle.grid_geom.specs.Line.{whole}
use Rattle.grid_geom.specs.Polygon.{IsStrictlyConvex}
use Rattle.grid_geom.specs.Winding.{wind}
use Rattle.grid_geom.specs.Closed.{IsClosed, IsEdge, IsOff}
use Rattle.wind_law.specs.Chains.{back}
use Rattle.wind_law.specs.Near.{IsInClosure}
use Rattle.state_law.specs.Free.{AreFreeOf, DoEdgesTangle, IsIn}
use Rattle.state_law.specs.Kept.{IsNoneOrOne}
use Rattle.state_law.specs.Saved.{IsElement, IsFrontPoint}
use Rattle.state_law.specs.Conforming.{HasNoHanging}

-- the front's lines are those of a region: closed, untangled, and round each point off them they wind 0 times or once
pub record IsRegion (front : List Edge) : Type 0 where
  pub edges : AllByRecursion IsEdge front
  pub closed : IsClosed front
  pub untangled : AreFreeOf DoEdgesTangle front
  pub single : (q : RatPoint) → IsRational q → IsOff q front → IsNoneOrOne (wind q front)

-- the place is outside the region, and on none of its lines
pub record IsSettled (front : List Edge) (p : Point) : Type 0 where
  pub off : IsOff (whole p) front
  pub none : wind (whole p) front ≡ pos 0

-- each place of the list is a front point, or settled
abbrev pub AreFrontOrSettled : List Edge → List Point → Type 0
AreFrontOrSettled front points =
    AllByRecursion (λ p. IsFrontPoint front p ⊎ IsSettled front p) points

-- each point of the closed elements is on a front line, or the front winds 0 times round it
abbrev pub AreSpent : List Edge → List (List Point) → Type 0
AreSpent front elements = (ds : List Point) → IsElement ds elements → (q : RatPoint) → IsRational q
    → IsInClosure q ds → IsOff q front → wind q front ≡ pos 0

-- what a front and the glued elements have, whatever the boundary: the front is a region, the elements' ground is spent, and no point hangs
pub record IsHeld (front : List Edge) (elements : List (List Point)) : Type 0 where
  pub region : IsRegion front
  pub convex : AllByRecursion IsStrictlyConvex elements
  pub spent : AreSpent front elements
  pub unhung : HasNoHanging front elements

-- the edge or its reverse is in the list
abbrev pub IsChosen : List Edge → Edge → Type 0
IsChosen es f = IsIn f es ⊎ IsIn (back f) es
