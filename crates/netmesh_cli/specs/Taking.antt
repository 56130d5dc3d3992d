-- The files that a call takes, one after another, and the first that isn't accepted.
--
-- Taken           a file that is taken
-- HoldsAccepted   the bytes held under its name are accepted
-- HoldsRejected   they are refused so
-- FileRefused     why a file is refused: it isn't there, it is too long, or its bytes are refused
-- FirstOf         one of the files, and those before it
-- AreAccepted     all files are accepted
-- FirstRefused    the refusal of the first file that isn't
-- TakeRefused     why the take of a file is refused; TakesRefused the takes of some
use Rattle.std.specs.Prelude.{◌≡◌, ◌⊎◌, ℕ, List, [], ◌∷◌, map}
use Rattle.std.specs.List.{AllByRecursion}
use Rattle.folder_io.specs.Causes.{Told}
use Rattle.folder_io.specs.Names.{Files, IsLonger, IsMissing}
use Rattle.folder_io.specs.States.{FolderState}
use Rattle.netmesh_cli.specs.declared.outcome.Refusal.{Refusal}
use Rattle.netmesh_cli.specs.declared.outcome.Refusal.TheVariants.{Folder, Memory}
use Rattle.netmesh_cli.specs.Causes.{HoldsWithin, FolderFault}
use Rattle.netmesh_cli.specs.Kinds.{Kind, AGeometry, ARuleFile, AMesh, AStateLog, limit_of, Accepts, Rejects, CanReject}

-- a file that is taken: its name, and what it is taken for
pub record Taken : Type 0 where
  pub name : List ℕ
  pub kind : Kind

-- a file that is taken for a geometry, or for a rule file
abbrev pub geometry_at : List ℕ → Taken
geometry_at name = record { name = name; kind = AGeometry }

abbrev pub rule_file_at : List ℕ → Taken
rule_file_at name = record { name = name; kind = ARuleFile }

-- a file that is taken for a mesh at the shift of the geometry of the first name
abbrev pub mesh_at : List ℕ → List ℕ → Taken
mesh_at geometry name = record { name = name; kind = AMesh geometry }

-- a file that is taken for a log with this domain and this step of it
abbrev pub state_log_at : ℕ → ℕ → List ℕ → Taken
state_log_at domain step name = record { name = name; kind = AStateLog domain step }

abbrev pub names_taken : List Taken → List (List ℕ)
names_taken takes = map (λ file. file.name) takes

-- the bytes under its name are within its limit, and accepted
pub record HoldsAccepted (files : Files) (file : Taken) : Type 0 where
  pub bytes : List ℕ
  pub holds : HoldsWithin (limit_of file.kind) files file.name bytes
  pub accepted : Accepts files file.kind bytes

-- the bytes under its name are within its limit, and refused so
pub record HoldsRejected (files : Files) (refusal : Refusal) (file : Taken) : Type 0 where
  pub bytes : List ℕ
  pub holds : HoldsWithin (limit_of file.kind) files file.name bytes
  pub rejected : Rejects files file.kind bytes refusal

-- why a file is refused: 2 it is longer than its limit, 3 it isn't there, or its bytes are refused
abbrev pub FileRefused : Files → Refusal → Taken → Type 0
FileRefused files (Folder name number) file =
    (name ≡ file.name)
    × (((number ≡ 2) × IsLonger (limit_of file.kind) file.name files)
    ⊎ ((number ≡ 3) × IsMissing file.name files))
FileRefused files refusal file = HoldsRejected files refusal file

-- one of the files meets the second, and all before it meet the first
abbrev pub FirstOf : (Taken → Type 0) → (Taken → Type 0) → List Taken → Type 0
FirstOf P Q [] = ⊥
FirstOf P Q (file ∷ later) = Q file ⊎ (P file × FirstOf P Q later)

-- all files are accepted
abbrev pub AreAccepted : List Taken → Files → Type 0
AreAccepted takes files = AllByRecursion (HoldsAccepted files) takes

-- some file is refused so, and all before it are accepted
abbrev pub FirstRefused : Files → Refusal → List Taken → Type 0
FirstRefused files refusal takes = FirstOf (HoldsAccepted files) (FileRefused files refusal) takes

-- why the take of a file is refused: by the folder, for its bytes, or for want of memory
abbrev pub TakeRefused : FolderState → FolderState → Refusal → Taken → Type 0
TakeRefused before now (Folder name number) file =
    (name ≡ file.name) × FolderFault (limit_of file.kind) file.name before now number
TakeRefused before now Memory file = Unit {0}
TakeRefused before now refusal file =
    CanReject file.kind refusal × Told before.held (λ files. HoldsRejected files refusal file)

-- why the takes of some files are refused: the take of one is, and all before it are accepted
abbrev pub TakesRefused : FolderState → FolderState → Refusal → List Taken → Type 0
TakesRefused before now refusal takes =
    FirstOf (λ file. Told before.held (λ files. HoldsAccepted files file))
    (TakeRefused before now refusal) takes
