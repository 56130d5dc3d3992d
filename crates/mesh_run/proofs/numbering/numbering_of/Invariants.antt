use Rattle.std.proofs.Common.{◌≡◌, take}
use Rattle.mesh_run.specs.Numbering.{by_first_occurrence}
use Rattle.mesh_run.proofs.numbering.numbering_of.Given as goal

abbrev pub invariant-loop-point : goal.invariant-loop-point
invariant-loop-point l = l.numbering ≡ by_first_occurrence (take l.point-index l.points)
