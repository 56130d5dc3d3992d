use Rattle.std.proofs.Common.{◌+◌, ◌-◌, length}
use Rattle.mesh_run.specs.Remembered.{AreSameRefusals}
use Rattle.mesh_run.proofs.refusals.lengthen.Given as goal

abbrev pub invariant-loop-table : goal.invariant-loop-table
invariant-loop-table l = AreSameRefusals l.initial.table.items l.table.items

abbrev pub decreases-loop-table : goal.decreases-loop-table
decreases-loop-table l = l.place + 1 - length l.table.items
