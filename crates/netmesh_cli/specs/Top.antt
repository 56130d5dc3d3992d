-- What the top call promises.
--
-- Words:  a fault is refused (`WordsAnswer`), and what a refusal says of them is so (`WordsCause`).
-- Verbs:  a call leaves what `Answers` says, whatever is told of the folder and the sink. Where the folder
--         tells what it holds, `Exactly` says the other way which answers may come of it.
-- Mesh:   `HoldsMesh` is the whole of a call of `mesh` that wasn't refused, in one place.
-- Lines:  a refusal writes its line (`WritesLine`).
use Rattle.std.specs.Prelude.{◌≡◌, ◌⊎◌, ℕ, List, [], Option, ◌++◌}
use Rattle.std.specs.FinMap as finite
use Rattle.folder_io.specs.Causes.{ToldBoth, GrowsByPrefix}
use Rattle.folder_io.specs.Names.{Files}
use Rattle.folder_io.specs.States.{FolderState, SinkState}
use Rattle.in2d_reader.specs.declared.geometry.RawGeometry.{RawGeometry}
use Rattle.mesh_run.specs.declared.WholeRun.{WholeRun}
use Rattle.netmesh_cli.specs.declared.outcome.Outcome.{Outcome}
use Rattle.netmesh_cli.specs.declared.outcome.Outcome.TheVariants.{Refused}
use Rattle.netmesh_cli.specs.declared.outcome.Refusal.{Refusal}
use Rattle.netmesh_cli.specs.declared.outcome.Refusal.TheVariants.{Words, Folder, Out, Memory, NotYet}
use Rattle.call_words.specs.declared.words_fault.WordsFault.{WordsFault}
use Rattle.call_words.specs.Commands.{MeshTask, IsFault}
use Rattle.netmesh_cli.specs.Words.{AskForUnbuilt}
use Rattle.netmesh_cli.specs.Causes.{IsMemory, IsUntaken}
use Rattle.netmesh_cli.specs.Taking.{AreAccepted, FirstRefused}
use Rattle.netmesh_cli.specs.Run.{MeshInput, IsRunOf, log_of, mesh_of, line_of, outcome_of, IsExactRun}
use Rattle.netmesh_cli.specs.Held.{HoldsGeometry, HoldsRules}
use Rattle.netmesh_cli.specs.Jobs.{Job, takes_of, puts_of, EndsSo}
use Rattle.netmesh_cli.specs.Served.{IsServed, IsAnswer, RefusalCause, RefusalStands, Keeps}
use Rattle.netmesh_cli.specs.Lines.{refusal_line}

-- ---- outcomes

-- a fact of the outcome, where the call wasn't refused
abbrev pub IfServed : Outcome → (Outcome → Type 0) → Type 0
IfServed (Refused refusal) P = Unit {0}
IfServed outcome P = P outcome

-- a fact of the refusal, where the call was refused
abbrev pub IfRefused : Outcome → (Refusal → Type 0) → Type 0
IfRefused (Refused refusal) P = P refusal
IfRefused _ P = Unit {0}

-- the call was refused, and this holds of the refusal
abbrev pub IsRefusedAnd : Outcome → (Refusal → Type 0) → Type 0
IsRefusedAnd (Refused refusal) P = P refusal
IsRefusedAnd _ P = ⊥

-- the call wasn't refused, or this holds of the refusal
abbrev pub IsServedOr : Outcome → (Refusal → Type 0) → Type 0
IsServedOr (Refused refusal) P = P refusal
IsServedOr _ P = Unit {0}

-- ---- refusals

-- the refusal is of words with this fault, unless memory was refused
abbrev pub IsWordsOrMemory : WordsFault → Refusal → Type 0
IsWordsOrMemory fault (Words other) = other ≡ fault
IsWordsOrMemory fault Memory = Unit {0}
IsWordsOrMemory fault _ = ⊥

-- the refusal is of this part, unless memory was refused
abbrev pub IsNotYetOrMemory : ℕ → Refusal → Type 0
IsNotYetOrMemory part (NotYet number) = number ≡ part
IsNotYetOrMemory part Memory = Unit {0}
IsNotYetOrMemory part _ = ⊥

-- a call of the folder failed, or memory was refused
abbrev pub IsFailureOrMemory : Refusal → Type 0
IsFailureOrMemory (Folder name number) = number ≡ 1
IsFailureOrMemory Memory = Unit {0}
IsFailureOrMemory _ = ⊥

-- ---- what is written of a refusal

-- the line is written, of which a sink that failed may have taken a prefix
abbrev pub WritesOrFails : SinkState → SinkState → List ℕ → Type 0
WritesOrFails before now line =
    ToldBoth before.written now.written
    (λ old new. (new ≡ old ++ line) ⊎ (IsUntaken before now × GrowsByPrefix line old new))

-- what is written by a call that was refused: the refusal's line, and nothing where memory was refused
abbrev pub WritesLine : SinkState → SinkState → Refusal → Type 0
WritesLine before now Out = Unit {0}
WritesLine before now Memory = now.written ≡ before.written
WritesLine before now refusal = WritesOrFails before now (refusal_line refusal)

-- the refusal is told in a line
abbrev pub HasLine : Refusal → Type 0
HasLine Out = ⊥
HasLine Memory = ⊥
HasLine _ = Unit {0}

-- how a refusal is told: it has no line, or its line is written and the refusal stays what it is, or memory
-- is refused for the line
pub data Telling (before now : SinkState) (given result : Refusal) : Type 0 where
  no_line : ¬ HasLine given → result ≡ given → now.written ≡ before.written
      → Telling before now given result
  line_told : HasLine given → result ≡ given → WritesOrFails before now (refusal_line given)
      → Telling before now given result
  no_memory : HasLine given → result ≡ Memory → now.written ≡ before.written
      → Telling before now given result

-- ---- words

-- a call that is refused for its words, by a refusal with P
pub record WordsAnswer (P : Refusal → Type 0) (outcome : Outcome) (before now : FolderState) : Type 0 where
  pub refused : IsRefusedAnd outcome P
  pub held : now.held ≡ before.held

-- what a refusal says of the words: that they have this fault, or, where it is of part 1, that what they ask
-- for isn't built
abbrev pub WordsCause : List (List ℕ) → Refusal → Type 0
WordsCause words (Words fault) = IsFault words fault
WordsCause words (NotYet part) = part ≡ 1 → AskForUnbuilt words
WordsCause words _ = Unit {0}

-- ---- verbs

-- what a call of a verb leaves
pub record Answers (job : Job) (outcome : Outcome) (before now : FolderState) (out out_now : SinkState) : Type 0 where
  -- the outcome is one of the verb's, or a refusal
  pub ending : IfServed outcome (EndsSo job)
  -- after success what is made of the files is put and written
  pub served : IfServed outcome (λ served.
      ToldBoth before.held now.held (IsServed job served out.written out_now.written))
  -- each refusal has its cause
  pub cause : IfRefused outcome (RefusalCause job before now (IsUntaken out out_now))
  -- what is held after a refusal, after any call, and by a verb that puts nothing
  pub stands : IfRefused outcome (λ refusal.
      ToldBoth before.held now.held (λ old new. RefusalStands job old new refusal))
  pub keeps : ToldBoth before.held now.held (Keeps job)
  pub puts_nothing : puts_of job ≡ [] → now.held ≡ before.held
  -- of an answer that is not taken a prefix is written
  pub untaken : IsRefusedAnd outcome (λ refusal. refusal ≡ Out)
      → (answer : List ℕ) × IsAnswer job before.held answer
      × ToldBoth out.written out_now.written (GrowsByPrefix answer)

-- which answers may come of files that are told, with `failed` where a call of the folder failed, and
-- `untaken` where one of the sink did
pub record Exactly (job : Job) (outcome : Outcome) (failed untaken : Type 0) (files : Files) : Type 0 where
  -- files that aren't all accepted: the first that isn't is refused, unless the folder failed before
  pub unaccepted : ¬ AreAccepted (takes_of job) files
      → IsRefusedAnd outcome (λ told.
      FirstRefused files told (takes_of job) ⊎ IsFailureOrMemory told)
  pub refused : (refusal : Refusal) → FirstRefused files refusal (takes_of job)
      → IsRefusedAnd outcome (λ told. (told ≡ refusal) ⊎ IsFailureOrMemory told)
  -- accepted files, and no failure of the folder or the sink
  pub complete : AreAccepted (takes_of job) files → ¬ failed → ¬ untaken
      → IsServedOr outcome IsMemory

-- ---- mesh

-- a call of `mesh` that wasn't refused: from the files that were held at entry to those that are held now
pub record HoldsMesh (task : MeshTask) (outcome : Outcome) (written now_written : Option (List ℕ))
    (old new : Files) : Type 0 where
  -- the geometry under GEOMETRY and the rules under RULES are accepted: each file has at most 1,048,576 bytes
  pub input : MeshInput
  pub raw : RawGeometry
  pub geometry : HoldsGeometry old task.geometry raw input.geometry
  pub rules : HoldsRules old task.rules input.rules
  pub options : input.options ≡ task.options
  -- this is their run: the applications are exactly the next ones
  pub run : WholeRun
  pub is_run : IsRunOf input run
  -- LOG holds its log and MESH its mesh, and every other name holds what it held
  pub files : new
      ≡ finite.insert (finite.insert old task.log (log_of run)) task.mesh (mesh_of input run)
  -- its summary line is written
  pub line : ToldBoth written now_written (λ before now. now ≡ before ++ line_of input run)
  -- after each application and in the written files elements and front add up to every domain, off all edges; the
  -- applications are at most the doubled area in number; the end is Done exactly with empty fronts, and otherwise
  -- Stuck, where nothing applies
  pub exact : IsExactRun input run
  -- the outcome is that of its end
  pub ended : outcome ≡ outcome_of run.end
