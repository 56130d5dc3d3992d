-- The status that the program ends with.
use Rattle.std.specs.Prelude.{ℕ}
use Rattle.netmesh_cli.specs.declared.outcome.Outcome.{Outcome}
use Rattle.netmesh_cli.specs.declared.outcome.Outcome.TheVariants.{Done, Stuck, Stopped, Good, Bad, Shown, Refused}
use Rattle.netmesh_cli.specs.declared.outcome.Refusal.{Refusal}
use Rattle.netmesh_cli.specs.declared.outcome.Refusal.TheVariants.{Words, In2d, Geometry, Rules}
use Rattle.netmesh_cli.specs.declared.outcome.Refusal.TheVariants.{Vol, Log, Folder, Out, Memory}
use Rattle.netmesh_cli.specs.declared.outcome.Refusal.TheVariants.{NotYet}

abbrev pub refusal_status : Refusal → ℕ
refusal_status (Words _) = 2
refusal_status (In2d _) = 3
refusal_status (Geometry _) = 3
refusal_status (Rules _) = 4
refusal_status (Vol _) = 10
refusal_status (Log _) = 11
refusal_status (Folder _ _) = 5
refusal_status Out = 6
refusal_status Memory = 7
refusal_status (NotYet _) = 12

-- 0 where the work is done, and else a number for each kind of ending
abbrev pub status_of : Outcome → ℕ
status_of Done = 0
status_of Good = 0
status_of Shown = 0
status_of Stuck = 1
status_of Stopped = 8
status_of Bad = 9
status_of (Refused refusal) = refusal_status refusal
