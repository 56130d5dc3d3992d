use Rattle.std.proofs.Common.{◌≡◌, ◌++◌, take}
use Rattle.std.specs.Prelude.{string_bytes}
use Rattle.std.specs.List.{flat_map}
use Rattle.run_log.specs.Log.{application_row}
use Rattle.run_log.proofs.write.write_applications.Given as goal

abbrev pub invariant-loop-application : goal.invariant-loop-application
invariant-loop-application l = string_bytes l.text ≡ string_bytes l.initial.text ++ flat_map application_row (take l.application-index l.applications)
