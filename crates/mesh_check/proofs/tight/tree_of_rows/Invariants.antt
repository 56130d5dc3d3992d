use Rattle.mesh_check.proofs.Kept.{AreRows}
use Rattle.mesh_check.proofs.tight.tree_of_rows.Given as goal

abbrev pub invariant-loop-row : goal.invariant-loop-row
invariant-loop-row l = AreRows l.points l.rows l.row-index l.tree.entries
