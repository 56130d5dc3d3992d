use Rattle.std.proofs.Common.{◌≡◌, ◌++◌, length}
use Rattle.admission.specs.Around.{ahead, IsThere}
use Rattle.mesh_run.proofs.left.rows_of.Given as goal

abbrev pub invariant-loop-next : goal.invariant-loop-next
invariant-loop-next l = record {
  there : IsThere l.front.lines l.next;
  kept : l.rows.items ++ ahead l.front.lines l.next ≡ l.front.lines;
}

abbrev pub decreases-loop-next : goal.decreases-loop-next
decreases-loop-next l = length (ahead l.front.lines l.next)
