-- What a run keeps of a domain's state, application by application, and what each application of it
-- has.
--
-- front_at, elements_at   the front lines of a state as edges between places, and its elements by
--                         their corners' places
-- IsReached               what is kept
-- MayBeApplied            what an application has: new places, listed corners, elements that may be
--                         glued one after another
use Rattle.std.specs.Prelude.{◌≡◌, List, [], ◌++◌, length, map}
use Rattle.std.specs.List.{All, AllByRecursion, IsDistinct}
use Rattle.grid_geom.specs.declared.Point.{Point}
use Rattle.grid_geom.specs.declared.Edge.{Edge}
use Rattle.grid_geom.specs.Bounds.{IsOnGrid}
use Rattle.grid_geom.specs.Closed.{same_point}
use Rattle.state_law.specs.State.{State, front_edges, corners_of, IsListed, IsNumbered}
use Rattle.state_law.specs.Kept.{IsKept}
use Rattle.admission.specs.Admission.{MayFollow}
use Rattle.rule_match.specs.declared.application.Application.{Application}
use Rattle.mesh_run.specs.Steps.{with_points}

-- the front lines of a state, as edges
abbrev pub front_at : State → List Edge
front_at st = front_edges st.points st.front

-- the elements of a state, each the list of its corners' places
abbrev pub elements_at : State → List (List Point)
elements_at st = map (corners_of st.points) st.elements

-- what a run keeps of its state: points are different grid points, front lines and elements join
-- listed points, elements are strictly convex, the
-- front lines don't tangle and wind 0 times or once round each point off the state's edges; and
-- each edge stands in the domain's boundary as often
-- more than its reverse as in the front and the elements together
pub record IsReached (boundary : List Edge) (st : State) : Type 0 where
  pub numbered : IsNumbered st
  pub on_grid : All IsOnGrid st.points
  pub corners_listed : AllByRecursion
      (λ ns. AllByRecursion (IsListed (length st.points)) ns) st.elements
  pub kept : IsKept boundary [] (front_at st) (elements_at st)

-- what an application has in the state at which it is made: its new points are different grid
-- points and none of them is a listed place; its elements
-- are triangles of listed and new points, and may be glued one after another
pub record MayBeApplied (st : State) (a : Application) : Type 0 where
  pub different : IsDistinct same_point (st.points ++ a.made)
  pub on_grid : All IsOnGrid a.made
  pub triangles : AllByRecursion (λ ns. length ns ≡ 3) a.elements
  pub listed : AllByRecursion (λ ns. AllByRecursion
      (IsListed (length (st.points ++ a.made))) ns) a.elements
  pub may : MayFollow (with_points st a.made) a.elements
