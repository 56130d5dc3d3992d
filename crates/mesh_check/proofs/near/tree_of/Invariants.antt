use Rattle.mesh_check.specs.Near.{AreKept}
use Rattle.mesh_check.proofs.near.tree_of.Given as goal

abbrev pub invariant-loop-i : goal.invariant-loop-i
invariant-loop-i l = AreKept l.points l.passed l.i l.tree.entries
