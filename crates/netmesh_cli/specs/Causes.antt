-- What is held under a name, and why the folder or the sink refuses.
--
-- HoldsWithin     bytes within a limit are held under the name
-- FolderFault     what the folder refused of a file, by its number
-- FetchRefused    why a take is refused by the folder, PutRefused a put, AnswerRefused an answer by the sink
use Rattle.std.specs.Prelude.{◌≡◌, ℕ, ◌≤◌, List, Option, length}
use Rattle.folder_io.specs.Causes.{Rose, Told, ToldBoth, GrowsByPrefix}
use Rattle.folder_io.specs.Names.{Files, Holds, IsLonger, IsMissing}
use Rattle.folder_io.specs.States.{FolderState, SinkState, FailedFor}
use Rattle.netmesh_cli.specs.declared.outcome.Refusal.{Refusal}
use Rattle.netmesh_cli.specs.declared.outcome.Refusal.TheVariants.{Folder, Out, Memory}

-- bytes that number at most the limit are held under the name
pub record HoldsWithin (limit : ℕ) (files : Files) (name bytes : List ℕ) : Type 0 where
  pub held : Holds files name bytes
  pub short : length bytes ≤ limit

-- what the folder refused of a file: 1 a call failed for it, 2 it is longer than its limit, 3 it is not there
pub data FolderFault (limit : ℕ) (name : List ℕ) (before now : FolderState) : ℕ → Type 0 where
  call_failed : FailedFor before now name → FolderFault limit name before now 1
  too_long : Told before.held (IsLonger limit name) → FolderFault limit name before now 2
  missing : Told before.held (IsMissing name) → FolderFault limit name before now 3

-- the refusal names this file and this fault
abbrev pub IsOf : List ℕ → ℕ → Refusal → Type 0
IsOf name fault (Folder named number) = (named ≡ name) × (number ≡ fault)
IsOf name fault _ = ⊥

abbrev pub IsMemory : Refusal → Type 0
IsMemory Memory = Unit {0}
IsMemory _ = ⊥

-- why a file that is taken is refused by the folder
abbrev pub FetchRefused : ℕ → List ℕ → FolderState → FolderState → Refusal → Type 0
FetchRefused limit name before now (Folder named number) =
    (named ≡ name) × FolderFault limit name before now number
FetchRefused limit name before now Memory = Unit {0}
FetchRefused limit name before now _ = ⊥

-- why a file that is put is refused by the folder
abbrev pub PutRefused : List ℕ → FolderState → FolderState → Refusal → Type 0
PutRefused name before now (Folder named number) =
    (named ≡ name) × (number ≡ 1) × FailedFor before now name
PutRefused name before now Memory = Unit {0}
PutRefused name before now _ = ⊥

-- a call of the folder failed in between
abbrev pub HasFailed : FolderState → FolderState → Type 0
HasFailed before now = Rose before.faults now.faults

-- a call of the sink failed in between
abbrev pub IsUntaken : SinkState → SinkState → Type 0
IsUntaken before now = Rose before.faults now.faults

-- why an answer is not taken
abbrev pub AnswerRefused : SinkState → SinkState → Refusal → Type 0
AnswerRefused before now Out = IsUntaken before now
AnswerRefused before now Memory = Unit {0}
AnswerRefused before now _ = ⊥

-- what is written where an answer is not taken: a prefix of it, or nothing where memory was refused
abbrev pub AnswerLeaves : List ℕ → Option (List ℕ) → Option (List ℕ) → Refusal → Type 0
AnswerLeaves answer before now Out = ToldBoth before now (GrowsByPrefix answer)
AnswerLeaves answer before now _ = now ≡ before
