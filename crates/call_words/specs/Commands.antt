-- What the words of a call ask for, and what is wrong with them.
--
-- Task       what is asked for
-- IsForm     the words after a verb are in its form
-- StandFor   places and options that stand for a task
-- Calls      the words after a verb stand for a task
-- IsFault    the words have this fault
-- IsCommand  the words ask for this task
use Rattle.std.specs.Prelude.{◌≡◌, ◌≢◌, ℕ, ◌≤◌, List, [], ◌∷◌, length, codes, Option, Some, None, pos, ◌≤ℤ◌}
use Rattle.word_scan.specs.declared.decimals.Dec.{Dec}
use Rattle.word_scan.specs.Numerals.{whole_of}
use Rattle.word_scan.specs.Decimals.{decimal_of}
use Rattle.call_words.specs.declared.words_fault.WordsFault.{WordsFault}
use Rattle.call_words.specs.declared.words_fault.WordsFault.TheVariants.{NoVerb, UnknownVerb, Form, Value, SameName}
use Rattle.call_words.specs.declared.command.Verb.{Verb}
use Rattle.call_words.specs.declared.command.Verb.TheVariants as verbs
use Rattle.call_words.specs.declared.command.MeshOptions.{MeshOptions}
use Rattle.call_words.specs.declared.command.Command.{Command}
use Rattle.call_words.specs.declared.command.Command.TheVariants as commands
use Rattle.call_words.specs.CommandLine.{Given, nothing_given, Reads}

-- the word that a verb is
abbrev pub verb_word : Verb → List ℕ
verb_word verbs.Mesh = codes "mesh"
verb_word verbs.Geom = codes "geom"
verb_word verbs.Rules = codes "rules"
verb_word verbs.Check = codes "check"
verb_word verbs.View = codes "view"
verb_word verbs.Replay = codes "replay"
verb_word verbs.Gen = codes "gen"

-- how many places a verb has
abbrev pub place_count : Verb → ℕ
place_count verbs.Mesh = 4
place_count verbs.Geom = 1
place_count verbs.Rules = 1
place_count verbs.Check = 2
place_count verbs.View = 3
place_count verbs.Replay = 3
place_count verbs.Gen = 2

-- `mesh` alone has options
abbrev pub MayBeGiven : Verb → Given → Type 0
MayBeGiven verbs.Mesh given = Unit {0}
MayBeGiven verbs.Geom given = given ≡ nothing_given
MayBeGiven verbs.Rules given = given ≡ nothing_given
MayBeGiven verbs.Check given = given ≡ nothing_given
MayBeGiven verbs.View given = given ≡ nothing_given
MayBeGiven verbs.Replay given = given ≡ nothing_given
MayBeGiven verbs.Gen given = given ≡ nothing_given

-- the words after the verb are read as these places and options, as many places as it has, and options that it has
pub record IsForm (verb : Verb) (words : List (List ℕ)) (places : List (List ℕ)) (given : Given) : Type 0 where
  pub reads : Reads nothing_given words places given
  pub count : length places ≡ place_count verb
  pub options : MayBeGiven verb given

-- the files of `mesh` by their names, and its options
pub record MeshTask : Type 0 where
  pub geometry : List ℕ
  pub rules : List ℕ
  pub mesh : List ℕ
  pub log : List ℕ
  pub options : MeshOptions

-- what is asked for: the files are given by their names
pub data Task : Type 0 where
  MeshOf : MeshTask → Task
  GeomOf : List ℕ → Task
  RulesOf : List ℕ → Task
  -- the geometry and the mesh
  CheckOf : List ℕ → List ℕ → Task
  -- the log, the domain and the step
  ViewOf : List ℕ → ℕ → ℕ → Task
  -- the geometry, the rules and the log
  ReplayOf : List ℕ → List ℕ → List ℕ → Task
  -- the squares each way, and the parts of a side
  GenOf : ℕ → ℕ → Task

abbrev pub verb_of : Task → Verb
verb_of (MeshOf _) = verbs.Mesh
verb_of (GeomOf _) = verbs.Geom
verb_of (RulesOf _) = verbs.Rules
verb_of (CheckOf _ _) = verbs.Check
verb_of (ViewOf _ _ _) = verbs.View
verb_of (ReplayOf _ _ _) = verbs.Replay
verb_of (GenOf _ _) = verbs.Gen

-- the word writes this whole number, which is from `least` to `greatest`
pub record IsWholeFrom (least greatest : ℕ) (word : List ℕ) (number : ℕ) : Type 0 where
  pub written : whole_of word greatest ≡ Some number
  pub enough : least ≤ number

-- the word writes this decimal, which is above 0
pub record IsSize (word : List ℕ) (size : Dec) : Type 0 where
  pub written : decimal_of word ≡ Some size
  pub above : pos 1 ≤ℤ size.digits

-- an option that isn't set has no value, and one that is set has the value that its word writes
abbrev pub HasValue : {A : Type 0} → (List ℕ → A → Type 0) → Option (List ℕ) → Option A → Type 0
HasValue Writes None value = value ≡ None
HasValue {A} Writes (Some word) value = (x : A) × Writes word x × (value ≡ Some x)

-- the options of `mesh` have these values
pub record AreOptions (given : Given) (options : MeshOptions) : Type 0 where
  pub maxh : HasValue IsSize given.maxh options.maxh
  pub grading : HasValue (IsWholeFrom 0 10000) given.grading options.grading
  pub class : HasValue (IsWholeFrom 1 16) given.class options.class
  pub steps : HasValue (IsWholeFrom 0 1000000000000) given.steps options.steps

-- the places and options stand for this task: each number is of its kind
abbrev pub StandFor : List (List ℕ) → Given → Task → Type 0
StandFor places given (MeshOf task) =
    (places ≡ task.geometry ∷ task.rules ∷ task.mesh ∷ task.log ∷ [])
    × AreOptions given task.options
StandFor places given (GeomOf geometry) = places ≡ geometry ∷ []
StandFor places given (RulesOf rules) = places ≡ rules ∷ []
StandFor places given (CheckOf geometry mesh) = places ≡ geometry ∷ mesh ∷ []
StandFor places given (ViewOf log domain step) = (d : List ℕ) × (s : List ℕ)
    × (places ≡ log ∷ d ∷ s ∷ []) × IsWholeFrom 1 64 d domain × IsWholeFrom 0 1000000000000 s step
StandFor places given (ReplayOf geometry rules log) = places ≡ geometry ∷ rules ∷ log ∷ []
StandFor places given (GenOf squares parts) = (n : List ℕ) × (m : List ℕ) × (places ≡ n ∷ m ∷ [])
    × IsWholeFrom 1 8 n squares × IsWholeFrom 1 16 m parts

-- the words after the verb of the task are in its form and stand for the task
abbrev pub Calls : List (List ℕ) → Task → Type 0
Calls words task = (places : List (List ℕ)) × (given : Given)
    × IsForm (verb_of task) words places given × StandFor places given task

-- the mesh and the log would have one name
abbrev pub HasOneName : Task → Type 0
HasOneName (MeshOf task) = task.mesh ≡ task.log
HasOneName (GeomOf _) = ⊥
HasOneName (RulesOf _) = ⊥
HasOneName (CheckOf _ _) = ⊥
HasOneName (ViewOf _ _ _) = ⊥
HasOneName (ReplayOf _ _ _) = ⊥
HasOneName (GenOf _ _) = ⊥

-- the words after the verb have this fault: they are in no way in its form; they are in it, but stand for no
-- task, since a number isn't of its kind; or they stand for a task with one name for mesh and log
abbrev pub IsFaultOf : Verb → List (List ℕ) → WordsFault → Type 0
IsFaultOf verb words Form = (places : List (List ℕ)) (given : Given)
    → ¬ IsForm verb words places given
IsFaultOf verb words Value = (places : List (List ℕ)) × (given : Given)
    × IsForm verb words places given
    × ((task : Task) → verb_of task ≡ verb → ¬ StandFor places given task)
IsFaultOf verb words SameName = (task : Task) × (verb_of task ≡ verb) × Calls words task
    × HasOneName task
IsFaultOf verb words NoVerb = ⊥
IsFaultOf verb words UnknownVerb = ⊥

-- the words after the verb stand for the task, with two names for mesh and log
abbrev pub IsCommandOf : Verb → List (List ℕ) → Task → Type 0
IsCommandOf verb words task = (verb_of task ≡ verb) × Calls words task × ¬ HasOneName task

-- the words have this fault: there are none; the first is no verb; or it is one, and those after it have the fault
abbrev pub IsFault : List (List ℕ) → WordsFault → Type 0
IsFault words NoVerb = words ≡ []
IsFault words UnknownVerb = (first : List ℕ) × (rest : List (List ℕ)) × (words ≡ first ∷ rest)
    × ((verb : Verb) → first ≢ verb_word verb)
IsFault words Form = (verb : Verb) × (rest : List (List ℕ)) × (words ≡ verb_word verb ∷ rest)
    × IsFaultOf verb rest Form
IsFault words Value = (verb : Verb) × (rest : List (List ℕ)) × (words ≡ verb_word verb ∷ rest)
    × IsFaultOf verb rest Value
IsFault words SameName = (verb : Verb) × (rest : List (List ℕ)) × (words ≡ verb_word verb ∷ rest)
    × IsFaultOf verb rest SameName

-- the words are a verb and words that stand for the task, with two names for mesh and log
abbrev pub IsCommand : List (List ℕ) → Task → Type 0
IsCommand words task = (verb : Verb) × (rest : List (List ℕ)) × (words ≡ verb_word verb ∷ rest)
    × IsCommandOf verb rest task

-- the task of a command
abbrev pub task_of : Command → Task
task_of (commands.Mesh files) = MeshOf (record {
  geometry = files.geometry.now;
  rules = files.rules.now;
  mesh = files.mesh.now;
  log = files.log.now;
  options = files.options;
})
task_of (commands.Geom geometry) = GeomOf geometry.now
task_of (commands.Rules rules) = RulesOf rules.now
task_of (commands.Check geometry mesh) = CheckOf geometry.now mesh.now
task_of (commands.View log domain step) = ViewOf log.now domain step
task_of (commands.Replay geometry rules log) = ReplayOf geometry.now rules.now log.now
task_of (commands.Gen squares parts) = GenOf squares parts
