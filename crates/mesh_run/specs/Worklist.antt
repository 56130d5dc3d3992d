-- The worklist of a run's search: classes and lines to try, in the order in which they are tried. It may hold more than is open: what is
-- refused or off the front by now is dropped when its turn comes.
--
-- turn_cmp      the order of the turns: by class, then by line
-- IsEarlier     a turn comes before another
-- IsToTry       a line is to be tried at a class
-- least_open    the least class at which a line may have a candidate
-- IsOpenTurn    a turn is open: its line is on the front, and isn't refused at its class
-- AreToTry      each front line is to be tried at the least class that is open to it
-- AreToTryBut   so it is, but for one turn
-- AreRefusedBefore   no line has a candidate at a turn before this one
-- tries_left    how often the worklist's lines may still be tried
-- IsOn          a turn is on the worklist, if that is known; IsTriedAgain, it was put on
-- AreTriedAgain what was to be tried still is, and so are lines of which something was forgotten
-- AreTriedFirst so it is with lines that are new
use Rattle.std.specs.Prelude.{ℕ, ◌≡◌, ◌⊎◌, ◌+◌, ◌-◌, ◌≤◌, ◌<◌, max, List, [], ◌∷◌, slice_index_or, Option, None, Some, IfSome, IsSome, IsTrue}
use Rattle.std.specs.List.{Contains}
use Rattle.std.specs.declared.cmp.Ordering.{Ordering}
use Rattle.std.specs.Ordering.{nat_cmp, ordering_then}
use Rattle.std.specs.BTreeSet.{BTreeSet, contains}
use Rattle.state_law.specs.State.{State}
use Rattle.front_chain.specs.Front.{line_at}
use Rattle.rule_match.specs.Least.{HasNone}
use Rattle.mesh_run.specs.Steps.{RunSetting}

-- ---- turns
-- of two turns, each a class and a line, the one with the less class comes first; at the same class the one with the less line
abbrev pub turn_cmp : ℕ × ℕ → ℕ × ℕ → Ordering
turn_cmp a b = ordering_then (nat_cmp a.0 b.0) (nat_cmp a.1 b.1)

-- one turn comes before another
abbrev pub IsEarlier : ℕ × ℕ → ℕ × ℕ → Type 0
IsEarlier a b = (a.0 < b.0) ⊎ ((a.0 ≡ b.0) × (a.1 < b.1))

-- the turn is on the worklist: the line is to be tried at the class
abbrev pub IsToTry : BTreeSet (ℕ × ℕ) → ℕ × ℕ → Type 0
IsToTry work turn = IsTrue (contains turn_cmp work turn)

-- the least class at which a line may have a candidate
abbrev pub least_open : List ℕ → ℕ → ℕ
least_open refused line = max 1 (slice_index_or refused line 0)

-- the class is one that is tried, and the line is on the front and isn't remembered as refused at it
pub record IsOpenTurn (front : List (ℕ × ℕ × ℕ)) (refused : List ℕ) (last : ℕ) (turn : ℕ × ℕ) : Type 0 where
  pub class : least_open refused turn.1 ≤ turn.0
  pub last_class : turn.0 ≤ last
  pub on_front : IsSome (line_at front turn.1)

-- ---- the worklist
-- each front line is to be tried at the least class that is open to it
pub record AreToTry (work : BTreeSet (ℕ × ℕ)) (front : List (ℕ × ℕ × ℕ)) (refused : List ℕ) (last : ℕ) : Type 0 where
  pub each : (line : ℕ × ℕ × ℕ) → Contains front line → least_open refused line.0 ≤ last
      → IsToTry work (least_open refused line.0, line.0)

-- so it is, but for one turn
pub record AreToTryBut (turn : ℕ × ℕ) (work : BTreeSet (ℕ × ℕ)) (front : List (ℕ × ℕ × ℕ)) (refused : List ℕ) (last : ℕ) : Type 0 where
  pub each : (line : ℕ × ℕ × ℕ) → Contains front line → least_open refused line.0 ≤ last
      → ((least_open refused line.0, line.0) ≡ turn) ⊎ IsToTry work (least_open refused line.0, line.0)

-- no line has a candidate at a class, where the two are a turn before this one
pub record AreRefusedBefore (s : RunSetting) (st : State) (turn : ℕ × ℕ) : Type 0 where
  pub none : (class line : ℕ) → 1 ≤ class → IsEarlier (class, line) turn
      → HasNone s.sizes st s.rules line class

-- how often these turns' lines may still be tried, each from its class to the last one, and once to find it refused
abbrev pub tries_left : ℕ → List (ℕ × ℕ) → ℕ
tries_left last [] = 0
tries_left last (turn ∷ turns) = 1 + (last - turn.0) + tries_left last turns

-- ---- what is known of it
-- what was to be tried still is, unless what is to be tried isn't known any more
abbrev pub DoesStay : Option (BTreeSet (ℕ × ℕ)) → Option (BTreeSet (ℕ × ℕ)) → Type 0
DoesStay before None = Unit {0}
DoesStay None (Some after) = ⊥
DoesStay (Some before) (Some after) = (turn : ℕ × ℕ) → IsToTry before turn → IsToTry after turn

-- the turn is on the worklist, unless what is to be tried isn't known
abbrev pub IsOn : Option (BTreeSet (ℕ × ℕ)) → ℕ × ℕ → Type 0
IsOn known turn = IfSome known (λ work. IsToTry work turn)

-- what was to be tried still is, and so is the turn
pub record IsTriedAgain (turn : ℕ × ℕ) (before after : Option (BTreeSet (ℕ × ℕ))) : Type 0 where
  pub stay : DoesStay before after
  pub again : IsOn after turn

-- what was to be tried still is, and each line from one number up to another is at the first class
pub record AreTriedFirst (from to : ℕ) (before after : Option (BTreeSet (ℕ × ℕ))) : Type 0 where
  pub stay : DoesStay before after
  pub again : (line : ℕ) → from ≤ line → line < to → IsOn after (1, line)

-- refusals, and what is to be tried where that is known
pub record Lessened : Type 0 where
  pub least : List ℕ
  pub work : Option (BTreeSet (ℕ × ℕ))

-- what was to be tried still is, and each line of which something was forgotten is to be tried at the least class that is open to it
pub record AreTriedAgain (before after : Lessened) : Type 0 where
  pub stay : DoesStay before.work after.work
  pub again : (line : ℕ) → (slice_index_or after.least line 0 ≡ slice_index_or before.least line 0)
      ⊎ IsOn after.work (least_open after.least line, line)
