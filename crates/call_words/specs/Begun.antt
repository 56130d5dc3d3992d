-- The first word of a call that can't stand where it stands, and the first that is at fault.
--
-- Begins             with some words behind them, the words are so
-- IsFirstOff         the first word with which they begin no words that are so
-- IsVerbAnd          the words are a verb, and those behind it are so
-- IsFormed           the words after a verb are in its form
-- IsFirstMisfit      the first word with which words begin no call, whatever its numbers and names
-- StandsFor          the words after a verb stand for a task, and where names are looked at, for one with two names
-- IsFirstAtFault     the first word with which words stand for no task, whatever comes behind it
use Rattle.std.specs.Prelude.{◌≡◌, ℕ, ◌+◌, ◌-◌, ◌≤◌, Bool, true, false, List, ◌∷◌, ◌++◌, length, take}
use Rattle.call_words.specs.declared.command.Verb.{Verb}
use Rattle.call_words.specs.CommandLine.{Given}
use Rattle.call_words.specs.Commands.{verb_word, IsForm, Task, verb_of, Calls, HasOneName}

-- with some words behind them, the words are so
abbrev pub Begins : (List (List ℕ) → Type 0) → List (List ℕ) → Type 0
Begins AreSo words = (more : List (List ℕ)) × AreSo (words ++ more)

-- the number, from 1, of the first word with which the words begin none that are so; where they all begin some, one
-- behind the last
pub record IsFirstOff (AreSo : List (List ℕ) → Type 0) (words : List (List ℕ)) (number : ℕ) : Type 0 where
  pub counted : 1 ≤ number
  pub within : number ≤ length words + 1
  pub before : Begins AreSo (take (number - 1) words)
  pub here : number ≤ length words → ¬ Begins AreSo (take number words)

-- the words are a verb, and those behind it are so
abbrev pub IsVerbAnd : (Verb → List (List ℕ) → Type 0) → List (List ℕ) → Type 0
IsVerbAnd AreSo words = (verb : Verb) × (rest : List (List ℕ)) × (words ≡ verb_word verb ∷ rest)
    × AreSo verb rest

-- the words after the verb are in its form
abbrev pub IsFormed : Verb → List (List ℕ) → Type 0
IsFormed verb words = (places : List (List ℕ)) × (given : Given) × IsForm verb words places given

-- the first word with which the words begin no verb with words in its form
abbrev pub IsFirstMisfit : List (List ℕ) → ℕ → Type 0
IsFirstMisfit = IsFirstOff (IsVerbAnd IsFormed)

-- where names are looked at, mesh and log have two
abbrev pub Differ : Bool → Task → Type 0
Differ true task = ¬ HasOneName task
Differ false task = Unit {0}

-- the words after the verb stand for a task of it
abbrev pub StandsFor : Bool → Verb → List (List ℕ) → Type 0
StandsFor names verb words = (task : Task) × (verb_of task ≡ verb) × Calls words task
    × Differ names task

-- the first word with which the words begin no verb with words that stand for a task: it can't stand there, or is no
-- number of its kind; or, where names are looked at, it is the log's name and the mesh's
abbrev pub IsFirstAtFault : Bool → List (List ℕ) → ℕ → Type 0
IsFirstAtFault names = IsFirstOff (IsVerbAnd (StandsFor names))
