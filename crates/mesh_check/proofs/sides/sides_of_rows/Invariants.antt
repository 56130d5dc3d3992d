use Rattle.std.proofs.Common.{◌≡◌, ◌++◌, drop}
use Rattle.mesh_check.specs.Balance.{row_sides}
use Rattle.mesh_check.proofs.sides.sides_of_rows.Given as goal

abbrev pub invariant-loop-row : goal.invariant-loop-row
invariant-loop-row l = l.sides.items ++ row_sides (drop l.row-index l.rows) ≡ row_sides l.rows
