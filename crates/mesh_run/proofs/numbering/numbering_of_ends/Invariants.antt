use Rattle.std.proofs.Common.{◌≡◌, take}
use Rattle.mesh_run.specs.Numbering.{by_first_occurrence, ends_of}
use Rattle.mesh_run.proofs.numbering.numbering_of_ends.Given as goal

abbrev pub invariant-loop-edge : goal.invariant-loop-edge
invariant-loop-edge l = l.numbering ≡ by_first_occurrence (ends_of (take l.edge-index l.edges))
