-- Refused pairs that are kept with their notes. A pair is a front line and a class at which it has no
-- candidate; its notes name front lines that hinder its attempts, each beside a point that the attempt
-- maps. Notes hold as long as all lines that they name are on the front. A pair that an application
-- touches is looked at again: only attempts that map a fresh point can have become candidates.
--
-- AreOnFront      the lines that notes name are on the front, as far as they were given
-- AreNoted        each refused pair that has notes is refused by them, as long as their lines are on the front
-- IsNotedAt       a pair has notes, and is refused by them
-- IsFollowedBy    a later state is the earlier one after a change: new points listed, elements glued
-- WasRefused      a pair was refused by notes before a change, or is refused by them after it
-- WereRefused     so it is with the pairs of a line from a class on
-- AreEndsFresh    the ends of a line that has joined, as far as they are new, and one of them are fresh
-- AreFreshPoints  the points by which a pair may have gained a candidate in a change
-- IsOwnClass      a class for which a region answers
-- AreHeld         what is remembered after pairs were looked at again
-- IsLookedAgain   a region's pairs that are still remembered are refused by their notes
-- IsLowered       of a line nothing is remembered from a class on; IsKeptTo, its pairs are kept up to a class
-- DoNotesStand    notes of a line whose lines are on the front
-- AreFewerNotes   some notes are dropped, and nothing else
use Rattle.std.specs.Prelude.{ℕ, ◌≡◌, ◌≢◌, ◌⊎◌, ◌≤◌, ◌<◌, All, IsSome, List, length, slice_index_or, Option, Some, IfSome, Vec}
use Rattle.std.specs.Global.{Global}
use Rattle.std.specs.List.{Contains}
use Rattle.std.specs.BTreeMap.{BTreeMap, get}
use Rattle.grid_geom.specs.declared.Point.{Point}
use Rattle.state_law.specs.State.{State}
use Rattle.front_chain.specs.Front.{line_at}
use Rattle.rule_match.specs.declared.progress.Note.{Note}
use Rattle.rule_match.specs.Candidate.{IsFrontPoint}
use Rattle.rule_match.specs.LookedAgain.{IsGluedOn}
use Rattle.rule_match.specs.Refused.{IsRefusedBy}
use Rattle.mesh_run.specs.declared.looked_again.Change.{Change}
use Rattle.mesh_run.specs.declared.refusals.Refusals.{Refusals}
use Rattle.mesh_run.specs.declared.refusals.Region.{Region}
use Rattle.mesh_run.specs.Steps.{RunSetting}
use Rattle.mesh_run.specs.Worklist.{turn_cmp}

-- ---- notes of refused pairs
-- by class and line, the notes of a pair
abbrev pub PairNotes : Type 0
PairNotes = BTreeMap (ℕ × ℕ) (Vec Note Global)

-- each line that the notes name, and that was given, is on the front
abbrev pub AreOnFront : State → List Note → Type 0
AreOnFront st notes = All (λ note. note.line < st.next → IsSome (line_at st.front note.line)) notes

-- a pair that has notes, and is remembered as refused, is refused by them, as long as all lines that
-- they name are on the front
pub record AreNoted (m : Refusals) (s : RunSetting) (st : State) : Type 0 where
  pub refused : (line class : ℕ) (held : Vec Note Global) → 1 ≤ class
      → class < slice_index_or m.least.items line 0 → get turn_cmp m.notes (class, line) ≡ Some held
      → AreOnFront st held.items → IsRefusedBy s.sizes st s.rules line class held.items

-- the pair has notes, and is refused by them
pub record IsNotedAt (notes : PairNotes) (s : RunSetting) (st : State) (line class : ℕ) : Type 0 where
  pub held : Vec Note Global
  pub has : get turn_cmp notes (class, line) ≡ Some held
  pub refused : IsRefusedBy s.sizes st s.rules line class held.items

-- ---- a change
-- points with numbers above c.points and lines with numbers from c.first on are new: new points were
-- listed and elements glued; and each end of a later line that was listed before was a front point
pub record IsFollowedBy (st later : State) (c : Change) : Type 0 where
  pub made : List Point
  pub elements : List (List Point)
  pub glued : IsGluedOn st later made elements
  pub listed : c.points ≡ length st.points
  pub given : (line : ℕ × ℕ × ℕ) → Contains st.front line → line.0 < c.first
  pub old_or_new : (line : ℕ × ℕ × ℕ) → Contains later.front line
      → Contains st.front line ⊎ (c.first ≤ line.0)
  pub same : (line other : ℕ × ℕ × ℕ) → Contains st.front line → Contains later.front other
      → other.0 ≡ line.0 → other ≡ line
  pub ends : (line : ℕ × ℕ × ℕ) (n : ℕ) → Contains later.front line
      → (line.1 ≡ n) ⊎ (line.2 ≡ n) → n ≤ c.points → IsFrontPoint st n

-- the pair was refused by the notes before the change, and its line had been given
pub record WasRefusedBefore (s : RunSetting) (later : State) (c : Change) (line class : ℕ) (notes : List Note) : Type 0 where
  pub before : State
  pub followed : IsFollowedBy before later c
  pub given : line < c.first
  pub refused : IsRefusedBy s.sizes before s.rules line class notes

-- the pair was refused by the notes before the change, or is refused by them after it
abbrev pub WasRefused : RunSetting → State → Change → ℕ → ℕ → List Note → Type 0
WasRefused s later c line class notes = WasRefusedBefore s later c line class notes
    ⊎ IsRefusedBy s.sizes later s.rules line class notes

-- so it is with the line's pairs from the class on that are remembered and have notes
abbrev pub WereRefused : Refusals → RunSetting → State → Change → Region → Type 0
WereRefused m s later c region = (class : ℕ) (held : Vec Note Global) → region.class ≤ class
    → 1 ≤ class → class ≤ 16 → class < slice_index_or m.least.items region.line 0
    → get turn_cmp m.notes (class, region.line) ≡ Some held
    → WasRefused s later c region.line class held.items

-- ---- fresh points
-- each new end of a line that has joined is among the points, and one of its ends is
pub record AreEndsFresh (points : ℕ) (fresh : List ℕ) (ends : ℕ × ℕ) : Type 0 where
  pub start : points < ends.0 → Contains fresh ends.0
  pub end : points < ends.1 → Contains fresh ends.1
  pub one : Contains fresh ends.0 ⊎ Contains fresh ends.1

-- so it is with each later line that is new; and the point beside each note whose line has left is
-- among them
pub record AreFreshPoints (front : List (ℕ × ℕ × ℕ)) (c : Change) (notes : List Note) (fresh : List ℕ) : Type 0 where
  pub joined : (line : ℕ × ℕ × ℕ) → Contains front line → c.first ≤ line.0
      → AreEndsFresh c.points fresh (line.1, line.2)
  pub left : (note : Note) → Contains notes note
      → IsSome (line_at front note.line) ⊎ Contains fresh note.point

-- ---- pairs that are looked at again
-- a class from the region's on with the same reach
abbrev pub IsOwnClass : List ℕ → Region → ℕ → Type 0
IsOwnClass reaches region class = (region.class ≤ class)
    × (slice_index_or reaches class 0 ≡ slice_index_or reaches region.class 0)

-- no entry comes or goes, and of no line more is remembered; a pair that is still remembered has the
-- notes of before, or is refused by those that it has
pub record AreHeld (s : RunSetting) (later : State) (before after : Refusals) : Type 0 where
  pub reaches : after.reaches.items ≡ before.reaches.items
  pub regions : after.regions.entries ≡ before.regions.entries
  pub less : (line : ℕ)
      → slice_index_or after.least.items line 0 ≤ slice_index_or before.least.items line 0
  pub pairs : (line class : ℕ) → class < slice_index_or after.least.items line 0
      → (get turn_cmp after.notes (class, line) ≡ get turn_cmp before.notes (class, line))
      ⊎ IsNotedAt after.notes s later line class

-- at each of the region's own classes that is still remembered its line is refused by notes
pub record IsLookedAgain (m : Refusals) (s : RunSetting) (later : State) (region : Region) : Type 0 where
  pub noted : (class : ℕ) → 1 ≤ class → class < length m.reaches.items
      → IsOwnClass m.reaches.items region class
      → class < slice_index_or m.least.items region.line 0
      → IsNotedAt m.notes s later region.line class

-- each pair has the notes of before, or none
pub record AreFewerNotes (before after : PairNotes) : Type 0 where
  pub each : (turn : ℕ × ℕ) (held : Vec Note Global) → get turn_cmp after turn ≡ Some held
      → get turn_cmp before turn ≡ Some held

-- each of the line's pairs from the class on has notes whose lines are on the front, or none
abbrev pub DoNotesStand : State → PairNotes → Region → Type 0
DoNotesStand st notes region = (class : ℕ) (held : Vec Note Global) → region.class ≤ class
    → class ≤ 16 → get turn_cmp notes (class, region.line) ≡ Some held → AreOnFront st held.items

-- of the turn's line nothing is remembered from its class on; all else stays, but for notes of what is
-- forgotten
pub record IsLowered (turn : ℕ × ℕ) (before after : Refusals) : Type 0 where
  pub reaches : after.reaches.items ≡ before.reaches.items
  pub regions : after.regions.entries ≡ before.regions.entries
  pub less : (line : ℕ)
      → slice_index_or after.least.items line 0 ≤ slice_index_or before.least.items line 0
  pub lowered : slice_index_or after.least.items turn.1 0 ≤ turn.0
  pub kept : (line : ℕ)
      → (slice_index_or after.least.items line 0 ≡ slice_index_or before.least.items line 0)
      ⊎ (turn.1 ≡ line)
  pub pairs : (line class : ℕ) → class < slice_index_or after.least.items line 0
      → get turn_cmp after.notes (class, line) ≡ get turn_cmp before.notes (class, line)

-- at each of the region's own classes that is remembered, before the class where one is told, its line
-- is refused by notes; all other pairs have the notes of before. A class that is told is none before
-- the region's, and is at least 1
pub record IsKeptTo (s : RunSetting) (later : State) (region : Region) (before after : Refusals) (lost : Option ℕ) : Type 0 where
  pub told : IfSome lost (λ class. region.class ≤ class × 1 ≤ class)
  pub pairs : (line class : ℕ) → IfSome lost (λ n. (class < n) ⊎ (line ≢ region.line))
      → (get turn_cmp after.notes (class, line) ≡ get turn_cmp before.notes (class, line))
      ⊎ IsNotedAt after.notes s later line class
  pub noted : (class : ℕ) → 1 ≤ class → class < 17 → IfSome lost (λ n. class < n)
      → IsOwnClass before.reaches.items region class
      → class < slice_index_or before.least.items region.line 0
      → IsNotedAt after.notes s later region.line class
