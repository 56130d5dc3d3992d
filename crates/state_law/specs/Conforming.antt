-- A domain's boundary, in the pieces with which its front began, and points that hang.
use lib.IntN.{pos}
use lib.Signed.{◌≤ℤ◌}
use mathlib.Core.Path.{◌≡◌}
use mathlib.Core.List.{List}
use mathlib.Core.Logic.{◌⊎◌}
use Rattle.std.specs.List.{AllByRecursion}
use Rattle.grid_geom.specs.declared.Point.{Point}
use Rattle.grid_geom.specs.declared.RatPoint.{RatPoint}
use Rattle.grid_geom.specs.declared.Edge.{Edge}
use Rattle.grid_geom.specs.Plane.{IsRational}
use Rattle.grid_geom.specs.Sides.{IsOnOpen}
use Rattle.grid_geom.specs.Winding.{wind}
use Rattle.grid_geom.specs.Closed.{IsClosed, IsEdge, IsOff}
use Rattle.wind_law.specs.Chains.{back}
use Rattle.state_law.specs.Free.{AreFreeOf, DoEdgesTangle}
use Rattle.state_law.specs.Kept.{all_sides, IsNoneOrOne, IsKept}
use Rattle.state_law.specs.Saved.{IsElementCorner, IsFrontPoint}

pub record IsBoundary (boundary others : List Edge) : Type 0 where
  pub edges : AllByRecursion IsEdge boundary
  pub closed : IsClosed boundary
  pub untangled : AreFreeOf DoEdgesTangle boundary
  pub at_most_once : (q : RatPoint) → IsRational q → IsOff q others → wind q boundary ≤ℤ pos 1

-- the boundary winds 0 times or once round each point off the further edges
abbrev pub WindsOnce : List Edge → List Edge → Type 0
WindsOnce boundary others = (q : RatPoint) → IsRational q → IsOff q others
    → IsNoneOrOne (wind q boundary)

-- v is a point of the state: an end of a front line or a corner of an element
abbrev pub IsUsed : List Edge → List (List Point) → Point → Type 0
IsUsed front elements v = IsFrontPoint front v ⊎ IsElementCorner v elements

-- v hangs in no side of an element and in no front line
pub record DoesNotHang (front : List Edge) (elements : List (List Point)) (v : Point) : Type 0 where
  pub off_sides : AllByRecursion (λ s. ¬ (IsOnOpen v s.a s.b)) (all_sides elements)
  pub off_lines : AllByRecursion (λ e. ¬ (IsOnOpen v e.a e.b)) front

-- no point of the state hangs
pub record HasNoHanging (front : List Edge) (elements : List (List Point)) : Type 0 where
  pub each : (v : Point) → IsUsed front elements v → DoesNotHang front elements v

-- what two domains have: no point is in both, and their pieces don't tangle
pub record AreNeighbours (boundary next_boundary others : List Edge) : Type 0 where
  pub apart : (q : RatPoint) → IsRational q → IsOff q others → pos 1 ≤ℤ wind q boundary
      → pos 1 ≤ℤ wind q next_boundary → ⊥
  pub pieces : AllByRecursion (λ f. AllByRecursion
      (λ g. (g ≡ f) ⊎ ((g ≡ back f) ⊎ ¬ (DoEdgesTangle f g))) next_boundary) boundary

-- all of a domain's state: what a run keeps, no hanging point, and each end of a piece still used
pub record IsSound (boundary others front : List Edge) (elements : List (List Point)) : Type 0 where
  pub kept : IsKept boundary others front elements
  pub bounds : IsBoundary boundary others
  pub winds : WindsOnce boundary others
  pub unhung : HasNoHanging front elements
  pub ends_used : (v : Point) → IsFrontPoint boundary v → IsUsed front elements v

-- a mesh point of a domain: an end of a piece or a corner of an element
abbrev pub IsMeshPoint : List Edge → List (List Point) → Point → Type 0
IsMeshPoint boundary elements v = IsFrontPoint boundary v ⊎ IsElementCorner v elements
