-- A domain's front after some of its applications, as a log tells it.
--
-- elements_made    the elements of the first applications
-- front_after      the front after these, each side glued by its ends alone
-- view_of          both
-- AreRising        domain numbers rise
-- HasState         the log has this run of the domain, and it has so many applications
-- LeastLeaves      the line with a side's ends and the least number leaves
-- Shows            what a view of a state shows
-- HasNoState       the log has no such state
use Rattle.std.specs.Prelude.{◌≡◌, ℕ, ◌+◌, ◌<◌, ◌≤◌, nat_lt, if◌then◌else◌, List, [], ◌∷◌, ◌++◌, true, length, take, Option, None, Some, Result, Ok, Err}
use Rattle.std.specs.List.{flat_map, AllByRecursion, Contains}
use Rattle.mesh_run.specs.declared.domain_run.DomainRun.{DomainRun}
use Rattle.state_law.specs.State.{does_join, number_sides, glue_lines}
use Rattle.front_chain.specs.Front.{numbered_from}
use Rattle.run_log.specs.declared.log.Log.{Log}
use Rattle.run_log.specs.declared.refusal.LogRefusal.{LogRefusal}
use Rattle.run_log.specs.declared.refusal.LogRefusal.TheVariants.{NoState}
use Rattle.run_log.specs.declared.state.View.{View}

-- the elements of the first k applications
abbrev pub elements_made : DomainRun → ℕ → List (List ℕ)
elements_made run k = flat_map (λ a. a.elements) (take k run.applications)

-- The front after k applications: the opening lines, to which the elements' sides are glued one after another. A line with a side's
-- ends leaves, the first that has them; where there is none, the side joins reversed with the next number.
abbrev pub front_after : DomainRun → ℕ → List (ℕ × ℕ × ℕ)
front_after run k = glue_lines (numbered_from 1 run.lines) (1 + length run.lines)
    (flat_map number_sides (elements_made run k))

abbrev pub view_of : DomainRun → ℕ → View
view_of run k = record { elements = length (elements_made run k); front = front_after run k }

-- each number is below those after it
abbrev pub AreRising : List DomainRun → Type 0
AreRising [] = Unit {0}
AreRising (run ∷ runs) = AllByRecursion (λ other. run.domain < other.domain) runs × AreRising runs

-- this is the log's run of the domain, and it has at least k applications
pub record HasState (log : Log) (domain k : ℕ) (run : DomainRun) : Type 0 where
  pub there : Contains log.domains run
  pub domain_is : run.domain ≡ domain
  pub enough : k ≤ length run.applications

pub record Shows (log : Log) (domain k : ℕ) (view : View) : Type 0 where
  pub run : DomainRun
  pub state : HasState log domain k run
  pub is : view ≡ view_of run k

abbrev pub HasNoState : Log → ℕ → ℕ → Type 0
HasNoState log domain k = (run : DomainRun) → HasState log domain k run → ⊥

-- of the lines that go the way of the side one leaves, none of which has a lower number; the others keep their order
pub record LeastLeaves (front : List (ℕ × ℕ × ℕ)) (side : ℕ × ℕ) (rest : List (ℕ × ℕ × ℕ)) : Type 0 where
  pub before : List (ℕ × ℕ × ℕ)
  pub line : ℕ × ℕ × ℕ
  pub after : List (ℕ × ℕ × ℕ)
  pub there : front ≡ before ++ line ∷ after
  pub rest_is : rest ≡ before ++ after
  pub joins : does_join line side ≡ true
  pub least : AllByRecursion
      (λ (other : ℕ × ℕ × ℕ). does_join other side ≡ true → line.0 ≤ other.0) front

-- inner: what is shown of the run that was found
abbrev pub viewed : Option DomainRun → ℕ → ℕ → Result View LogRefusal
viewed None domain k = Err (NoState domain k)
viewed (Some run) domain k =
    if nat_lt (length run.applications) k then Err (NoState domain k) else Ok (view_of run k)
