-- When a refused line stays refused over an application, and for which points it has to be looked at again.
-- An attempt that maps no fresh point was one of before, and a front line that hindered it then still does.
--
-- IsGluedOn    a later state lists more points, and elements are glued to its front
-- Pair         a front line tried at a class
-- IsUnmapped   no allowed attempt maps the point
-- IsShut       what maps no fresh point doesn't map the point
-- IsHarmless   a line that has joined gives nothing to map but by a fresh point
-- IsIdle       a line hinders no allowed attempt
-- AreFresh     the fresh points of a line that is refused by notes
-- DoStand      notes of lines that have left the front are left out
use Rattle.std.specs.Prelude.{ℕ, ◌≡◌, ◌⊎◌, List, ◌++◌}
use Rattle.std.specs.List.{AllByRecursion, Contains}
use Rattle.grid_geom.specs.declared.Point.{Point}
use Rattle.grid_geom.specs.declared.Edge.{Edge}
use Rattle.grid_geom.specs.Polygon.{IsApart}
use Rattle.rule_reader.specs.declared.rule.Rule.{Rule}
use Rattle.size_field.specs.Size.{SizeField}
use Rattle.state_law.specs.State.{State, pair_edge, front_edges, IsNumbered}
use Rattle.state_law.specs.Gluing.{glue_all, IsClearOf, MayAllBeGlued}
use Rattle.state_law.specs.Refusal.{IsFront}
use Rattle.state_law.specs.Refusal as refusal
use Rattle.rule_match.specs.declared.progress.Note.{Note}
use Rattle.rule_match.specs.Candidate.{Attempt, IsFrontPoint}
use Rattle.rule_match.specs.Least.{IsOf}
use Rattle.rule_match.specs.Refused.{IsAllowed, places_of}

-- the later state lists `more` points after those of the earlier one, and its front is the earlier one with the elements glued to it
pub record IsGluedOn (st later : State) (more : List Point) (elements : List (List Point)) : Type 0 where
  pub points : later.points ≡ st.points ++ more
  pub numbered : IsNumbered st
  pub later_numbered : IsNumbered later
  pub front : IsFront (front_edges st.points st.front)
  pub may : MayAllBeGlued elements (front_edges st.points st.front)
  pub glued : front_edges later.points later.front
      ≡ glue_all (front_edges st.points st.front) elements

-- a front line (number, from, to), tried at the class by these rules and sizes
pub record Pair : Type 0 where
  pub sizes : SizeField
  pub rules : List Rule
  pub line : ℕ × ℕ × ℕ
  pub class : ℕ

-- no allowed attempt of the pair maps the point
abbrev pub IsUnmapped : Pair → State → ℕ → Type 0
IsUnmapped p later n = (t : Attempt) → IsOf p.sizes later p.rules p.line.0 p.class t
    → IsAllowed later t → ¬ (Contains t.points n)

-- the point is fresh, or none maps it
abbrev pub IsShut : Pair → State → List ℕ → ℕ → Type 0
IsShut p later fresh n = Contains fresh n ⊎ IsUnmapped p later n

-- each end of a line that has joined is shut or was a front point, and one of them is shut
pub record IsHarmless (p : Pair) (st later : State) (fresh : List ℕ) (line : ℕ × ℕ × ℕ) : Type 0 where
  pub start : IsShut p later fresh line.1 ⊎ IsFrontPoint st line.1
  pub end : IsShut p later fresh line.2 ⊎ IsFrontPoint st line.2
  pub one : IsShut p later fresh line.1 ⊎ IsShut p later fresh line.2

-- the edge is apart from the zone of the attempt, and clear of its elements
pub record IsNoHindrance (t : refusal.Attempt) (e : Edge) : Type 0 where
  pub apart : IsApart e.a e.b t.zone
  pub clear : AllByRecursion (λ cs. IsClearOf cs e) t.elements

-- the line hinders no allowed attempt of the pair
abbrev pub IsIdle : Pair → State → ℕ × ℕ × ℕ → Type 0
IsIdle p later line = (t : Attempt) → IsOf p.sizes later p.rules p.line.0 p.class t
    → IsAllowed later t → IsNoHindrance (places_of later t) (pair_edge later.points (line.1, line.2))

-- each later front line was there or is harmless; each front line that is noted is still there, or the point beside it is shut, or the line
-- is idle
pub record AreFresh (p : Pair) (st later : State) (notes : List Note) (fresh : List ℕ) : Type 0 where
  pub joined : (line : ℕ × ℕ × ℕ) → Contains later.front line
      → Contains st.front line ⊎ IsHarmless p st later fresh line
  pub left : (note : Note) (line : ℕ × ℕ × ℕ) → Contains notes note → Contains st.front line
      → line.0 ≡ note.line
      → Contains later.front line ⊎ (IsShut p later fresh note.point ⊎ IsIdle p later line)

-- each note of a front line is among the second list
pub record DoStand (front : List (ℕ × ℕ × ℕ)) (notes left : List Note) : Type 0 where
  pub each : (note : Note) (line : ℕ × ℕ × ℕ) → Contains notes note → Contains front line
      → line.0 ≡ note.line → Contains left note
