-- The states of a run's domains conform, however many of its applications each has made: no side
-- is used twice, each side is met by exactly one thing, and no point hangs.
--
-- DomainState     a domain at a time of its run: its boundary in pieces, its front, its elements
-- domain_state    after the first so many of its applications
-- DoSidesMatch    in one domain: each side of an element is there once, and exactly one thing meets it
-- DoSidesDiffer   of two domains: no side belongs to an element of each
-- NoneHangs       no mesh point of the second is in an open side of an element of the first
-- AreConforming   so it is of all domains
use Rattle.std.specs.Prelude.{◌≡◌, ◌≢◌, ◌≤◌, ◌+◌, ℕ, List, map, take}
use Rattle.std.specs.List.{AllByRecursion}
use Rattle.grid_geom.specs.declared.Point.{Point}
use Rattle.grid_geom.specs.declared.Edge.{Edge}
use Rattle.grid_geom.specs.Sides.{IsOnOpen}
use Rattle.geom_check.specs.Geometry.{PlanarMap}
use Rattle.size_field.specs.Boundary.{piece_boundary}
use Rattle.wind_law.specs.Chains.{back, times}
use Rattle.state_law.specs.Conforming.{IsMeshPoint}
use Rattle.state_law.specs.Free.{IsIn}
use Rattle.state_law.specs.Kept.{all_sides}
use Rattle.state_law.specs.State.{State}
use Rattle.mesh_run.specs.declared.Options.{Options}
use Rattle.mesh_run.specs.declared.domain_run.DomainRun.{DomainRun}
use Rattle.mesh_run.specs.Reached.{elements_at, front_at}
use Rattle.mesh_run.specs.Runs.{opening_of, pieces_by}
use Rattle.mesh_run.specs.Steps.{state_after}

-- a domain at a time of its run, by places
pub record DomainState : Type 0 where
  pub domain : ℕ
  pub boundary : List Edge
  pub front : List Edge
  pub elements : List (List Point)

-- the domain's boundary in pieces, with the front and the elements of a state
abbrev pub placed_state : PlanarMap → Options → ℕ → State → DomainState
placed_state g options d st = record {
  domain = d;
  boundary = piece_boundary d g.segments (pieces_by g options);
  front = front_at st;
  elements = elements_at st;
}

-- the state of a domain after the first k applications of its run
abbrev pub domain_state : PlanarMap → Options → DomainRun → ℕ → DomainState
domain_state g options r k = placed_state g options r.domain
    (state_after (opening_of g options r.domain) (take k r.applications))

-- no directed side belongs to two elements; and of each side exactly one of these is there, and
-- once: its reverse as a side of another element, its reverse as a front line, the side itself as
-- a piece of the boundary
pub record DoSidesMatch (s : DomainState) : Type 0 where
  pub once : (e : Edge) → times e (all_sides s.elements) ≤ 1
  pub matched : (e : Edge) → IsIn e (all_sides s.elements)
      → times (back e) (all_sides s.elements) + times (back e) s.front + times e s.boundary ≡ 1

-- no side belongs to an element of each of two domains
abbrev pub DoSidesDiffer : DomainState → DomainState → Type 0
DoSidesDiffer s t = (e : Edge) → IsIn e (all_sides s.elements) → ¬ (IsIn e (all_sides t.elements))

-- no mesh point of t, an end of a piece or a corner of an element, is in an open side of an
-- element of s
abbrev pub NoneHangs : DomainState → DomainState → Type 0
NoneHangs s t = (v : Point) (e : Edge) → IsMeshPoint t.boundary t.elements v
    → IsIn e (all_sides s.elements) → ¬ (IsOnOpen v e.a e.b)

-- the states of all domains conform
pub record AreConforming (states : List DomainState) : Type 0 where
  pub matched : AllByRecursion DoSidesMatch states
  pub differ : AllByRecursion (λ s. AllByRecursion
      (λ t. s.domain ≢ t.domain → DoSidesDiffer s t) states) states
  pub unhung : AllByRecursion (λ s. AllByRecursion (NoneHangs s) states) states

-- the states of the runs, each after as many applications as are chosen for its domain
abbrev pub states_at : PlanarMap → Options → (ℕ → ℕ) → List DomainRun → List DomainState
states_at g options chosen runs = map (λ r. domain_state g options r (chosen r.domain)) runs
