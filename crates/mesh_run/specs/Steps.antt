-- The run of a domain by rules: which application comes next, the states one after another, and how
-- the run ends.
-- Origin: the advancing front of Schoeberl 1997, with this project's own order of candidates. The
-- definitions look at all lines, classes, rules and points; the code keeps a list of lines to try.
--
-- RunSetting       what a domain's run stands on
-- IsNext           an application is that of the least candidate: of the least class, then of the
--                  least line
-- NothingApplies   no front line has a candidate at any class
-- applied          the state after an application
-- state_after      the state after applications, one after another; AreNext, each of which is the
--                  next one
-- IsEndOf          how a run ends
use Rattle.std.specs.Prelude.{ℕ, ◌≡◌, ◌≢◌, ◌⊎◌, ◌≤◌, ◌<◌, List, [], ◌∷◌, ◌++◌, Option, None, Some}
use Rattle.grid_geom.specs.declared.Point.{Point}
use Rattle.rule_reader.specs.declared.rule.Rule.{Rule}
use Rattle.size_field.specs.Size.{SizeField}
use Rattle.state_law.specs.State.{State}
use Rattle.admission.specs.Admission.{glued_on}
use Rattle.rule_match.specs.declared.application.Application.{Application}
use Rattle.rule_match.specs.Least.{HasNone}
use Rattle.rule_match.specs.Best.{IsBest}
use Rattle.mesh_run.specs.declared.End.{End}
use Rattle.mesh_run.specs.declared.End.TheVariants.{Done, Stuck, Stopped}

-- the sizes of the domain, the rules, and the last class that is tried
pub record RunSetting : Type 0 where
  pub sizes : SizeField
  pub rules : List Rule
  pub last : ℕ

-- a class and line come before others: a lower class, or a lower line at the same class
abbrev pub IsBefore : ℕ → ℕ → Application → Type 0
IsBefore class line a = (class < a.class) ⊎ ((class ≡ a.class) × (line < a.line))

-- the application is that of the least candidate of all: by class, then by line, then by the order
-- on a line
pub record IsNext (s : RunSetting) (st : State) (a : Application) : Type 0 where
  pub first_class : 1 ≤ a.class
  pub last_class : a.class ≤ s.last
  pub best : IsBest s.sizes st s.rules a.line a.class a
  pub least : (class line : ℕ) → 1 ≤ class → IsBefore class line a
      → HasNone s.sizes st s.rules line class

-- no line has a candidate at any class that is tried
pub record NothingApplies (s : RunSetting) (st : State) : Type 0 where
  pub none : (class line : ℕ) → 1 ≤ class → class ≤ s.last → HasNone s.sizes st s.rules line class

-- ---- states one after another
-- new points are listed
abbrev pub with_points : State → List Point → State
with_points st made = record st { points = st.points ++ made }

-- the state after an application: its new points are listed, and its elements glued one after
-- another
abbrev pub applied : State → Application → State
applied st a = glued_on (with_points st a.made) a.elements

-- the state after these applications
abbrev pub state_after : State → List Application → State
state_after st [] = st
state_after st (a ∷ more) = state_after (applied st a) more

-- each application is the next one of the state that those before it leave
abbrev pub AreNext : RunSetting → State → List Application → Type 0
AreNext s st [] = Unit {0}
AreNext s st (a ∷ more) = IsNext s st a × AreNext s (applied st a) more

-- ---- ends
-- at least as many applications were made as are allowed
abbrev pub IsSpent : Option ℕ → ℕ → Type 0
IsSpent None made = ⊥
IsSpent (Some limit) made = limit ≤ made

-- no more applications were made than are allowed
abbrev pub IsWithin : Option ℕ → ℕ → Type 0
IsWithin None made = Unit {0}
IsWithin (Some limit) made = made ≤ limit

-- a front is left, and an application comes next
pub record HasNext (s : RunSetting) (st : State) : Type 0 where
  pub application : Application
  pub next : IsNext s st application

-- how the run ends that has come to this state: Done where no front is left; Stuck where one is
-- left and nothing applies; Stopped where
-- something applies, and no further application is allowed
abbrev pub IsEndOf : RunSetting → Option ℕ → State → ℕ → End → Type 0
IsEndOf s limit st made Done = st.front ≡ []
IsEndOf s limit st made Stuck = (st.front ≢ []) × NothingApplies s st
IsEndOf s limit st made Stopped = HasNext s st × IsSpent limit made
