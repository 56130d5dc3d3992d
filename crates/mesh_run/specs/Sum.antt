-- How the elements and the front that is left add up to a domain: after each application of its
-- run, and in the mesh that is written.
--
-- sum_of_elements   how often elements wind round a point in all
-- IsOffEdges        a rational point off all segments, off a front and off the sides of elements
-- AddsUp            round the point elements and front wind as often as the boundary in all, each 0
--                   times or once
-- AddUp             so it is round each such point
-- IsCovered         so it is after each application, and there are at most as many as the
--                   boundary's doubled area
-- elements_in       the elements of a domain in a mesh
-- IsFilled          so it is of each domain, application by application and in the mesh;
--                   AreCovered, of all domains of a run
use Rattle.std.specs.Prelude.{ℕ, ◌≡◌, ◌≤◌, ◌==◌, List, [], ◌∷◌, map, filter, length, take, pos, ◌+ℤ◌, ℤ}
use Rattle.std.specs.List.{AllByRecursion, AllZip}
use Rattle.grid_geom.specs.declared.Point.{Point}
use Rattle.grid_geom.specs.declared.Edge.{Edge}
use Rattle.grid_geom.specs.declared.RatPoint.{RatPoint}
use Rattle.grid_geom.specs.Plane.{IsRational}
use Rattle.grid_geom.specs.Polygon.{sides}
use Rattle.grid_geom.specs.Area.{shoelace}
use Rattle.grid_geom.specs.Winding.{wind}
use Rattle.grid_geom.specs.Closed.{IsOff}
use Rattle.geom_check.specs.Accepted.{IsZeroOrOne}
use Rattle.geom_check.specs.Boundary.{boundary, edges_of}
use Rattle.geom_check.specs.Domains.{domain_numbers}
use Rattle.geom_check.specs.Geometry.{PlanarMap}
use Rattle.state_law.specs.State.{State, corners_of}
use Rattle.state_law.specs.Kept.{all_sides}
use Rattle.front_chain.specs.Front.{or_zero}
use Rattle.rule_match.specs.declared.application.Application.{Application}
use Rattle.vol_format.specs.declared.Mesh.{Mesh}
use Rattle.mesh_run.specs.declared.Options.{Options}
use Rattle.mesh_run.specs.declared.WholeRun.{WholeRun}
use Rattle.mesh_run.specs.declared.domain_run.DomainRun.{DomainRun}
use Rattle.mesh_run.specs.Mesh.{mesh_of_run}
use Rattle.mesh_run.specs.Opening.{front_edges}
use Rattle.mesh_run.specs.Reached.{front_at, elements_at}
use Rattle.mesh_run.specs.Runs.{opening_of}
use Rattle.mesh_run.specs.Steps.{state_after}

-- how often the elements wind round a point in all
abbrev pub sum_of_elements : RatPoint → List (List Point) → ℤ
sum_of_elements q [] = pos 0
sum_of_elements q (corners ∷ elements) = wind q (sides corners) +ℤ sum_of_elements q elements

-- a rational point off all segments, off the front lines and off the elements' sides
pub record IsOffEdges (g : PlanarMap) (elements : List (List Point)) (front : List Edge) (q : RatPoint) : Type 0 where
  pub rational : IsRational q
  pub off_segments : IsOff q (edges_of g.points g.segments)
  pub off_elements : IsOff q (all_sides elements)
  pub off_front : IsOff q front

-- the domain's boundary winds round the point as often as the elements and the front in all, and
-- each of these 0 times or once
pub record AddsUp (g : PlanarMap) (d : ℕ) (elements : List (List Point)) (front : List Edge) (q : RatPoint) : Type 0 where
  pub sum : wind q (boundary g.points d g.segments) ≡ sum_of_elements q elements +ℤ wind q front
  pub elements_once : AllByRecursion (λ corners. IsZeroOrOne (wind q (sides corners))) elements
  pub front_once : IsZeroOrOne (wind q front)

-- the elements and the front add up to the domain, at each rational point off all edges
abbrev pub AddUp : PlanarMap → ℕ → List (List Point) → List Edge → Type 0
AddUp g d elements front = (q : RatPoint) → IsOffEdges g elements front q
    → AddsUp g d elements front q

-- so they do after each of the applications; and of these there are at most as many as the domain's
-- doubled area
pub record IsCovered (g : PlanarMap) (d : ℕ) (opening : State) (applications : List Application) : Type 0 where
  pub adds_up : (k : ℕ) → k ≤ length applications
      → AddUp g d (elements_at (state_after opening (take k applications)))
      (front_at (state_after opening (take k applications)))
  pub bounded : length applications ≤ or_zero (shoelace (boundary g.points d g.segments))

-- the elements of the domain in a mesh, each the list of its corners' places
abbrev pub elements_in : ℕ → Mesh → List (List Point)
elements_in d m = map (λ e. corners_of m.points e.corners) (filter (λ e. e.domain == d) m.elements)

-- elements and front add up to the domain: after each application of its run r, and in the mesh,
-- with the front that is left in the end
pub record IsFilled (g : PlanarMap) (options : Options) (m : Mesh) (d : ℕ) (r : DomainRun) : Type 0 where
  pub after_each : IsCovered g d (opening_of g options d) r.applications
  pub in_mesh : AddUp g d (elements_in d m) (front_edges r)

-- so it is of each domain that the segments name, by rising number
abbrev pub AreCovered : PlanarMap → Options → WholeRun → Type 0
AreCovered g options w = AllZip (IsFilled g options (mesh_of_run w g.segments))
    (domain_numbers g.segments) w.domains
