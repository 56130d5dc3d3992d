-- What a contract sees of a folder and of a sink.
use Rattle.std.specs.Prelude.{◌≡◌, ℕ, List, Option}
use Rattle.folder_io.specs.Causes.{Rose}
use Rattle.folder_io.specs.Names.{Files}

-- a folder: what it holds, where it tells that, how many of its calls failed, and for which name the last of them
pub record FolderState : Type 0 where
  pub held : Option Files
  pub faults : ℕ
  pub last : List ℕ

-- a sink: the bytes that it took, where it tells them, and how many of its calls failed
pub record SinkState : Type 0 where
  pub written : Option (List ℕ)
  pub faults : ℕ

-- a call of the folder failed in between, the last one for this name
abbrev pub FailedFor : FolderState → FolderState → List ℕ → Type 0
FailedFor before now name = Rose before.faults now.faults × (now.last ≡ name)

-- no call of the folder failed in between
abbrev pub IsQuiet : FolderState → FolderState → Type 0
IsQuiet before now = (now.faults ≡ before.faults) × (now.last ≡ before.last)
