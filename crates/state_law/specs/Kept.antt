-- What a run keeps of the front and the elements of a domain.
use lib.IntN.{ℤ, pos, ◌+ℤ◌}
use mathlib.Core.Path.{◌≡◌}
use mathlib.Core.List.{List, [], ◌∷◌, ◌++◌}
use mathlib.Core.Logic.{◌⊎◌}
use Rattle.std.specs.List.{AllByRecursion}
use Rattle.grid_geom.specs.declared.Point.{Point}
use Rattle.grid_geom.specs.declared.RatPoint.{RatPoint}
use Rattle.grid_geom.specs.declared.Edge.{Edge}
use Rattle.grid_geom.specs.Plane.{IsRational}
use Rattle.grid_geom.specs.Polygon.{sides, IsStrictlyConvex}
use Rattle.grid_geom.specs.Winding.{wind}
use Rattle.grid_geom.specs.Closed.{IsClosed, IsEdge, IsOff}
use Rattle.state_law.specs.Net.{net}
use Rattle.state_law.specs.Free.{AreFreeOf, DoEdgesTangle}

-- the sides of all elements
abbrev pub all_sides : List (List Point) → List Edge
all_sides [] = []
all_sides (cs ∷ elements) = sides cs ++ all_sides elements

abbrev pub IsNoneOrOne : ℤ → Type 0
IsNoneOrOne n = (n ≡ pos 0) ⊎ (n ≡ pos 1)

-- q is off the edges of the state, and off the further edges (the segments)
pub record IsOffState (others front : List Edge) (elements : List (List Point)) (q : RatPoint) : Type 0 where
  pub off_others : IsOff q others
  pub off_front : IsOff q front
  pub off_elements : IsOff q (all_sides elements)

-- what is kept. By `chain` each edge stands in the boundary as often more than its reverse as in the front and the elements together, so their winding numbers and doubled areas add up to the boundary's
pub record IsKept (boundary others front : List Edge) (elements : List (List Point)) : Type 0 where
  pub other_edges : AllByRecursion IsEdge others
  pub edges : AllByRecursion IsEdge front
  pub closed : IsClosed front
  pub untangled : AreFreeOf DoEdgesTangle front
  pub convex : AllByRecursion IsStrictlyConvex elements
  pub chain : (x : Edge) → net x boundary ≡ net x front +ℤ net x (all_sides elements)
  pub single : (q : RatPoint) → IsRational q → IsOffState others front elements q
      → IsNoneOrOne (wind q front)
