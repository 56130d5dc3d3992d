use Rattle.std.proofs.Common.{◌≡◌, ◌+◌, ◌++◌, ◌≤◌, take}
use Rattle.front_chain.specs.Front.{spare_elements}
use Rattle.mesh_run.proofs.applying.list_points.Given as goal

abbrev pub invariant-loop-point : goal.invariant-loop-point
invariant-loop-point l = record {
  points : l.front.points ≡ l.initial.front.points ++ take l.point-index l.made;
  lines : l.front.lines ≡ l.initial.front.lines;
  next : l.front.next ≡ l.initial.front.next;
  spare_points : l.initial.front.spare_points ≤ l.front.spare_points + l.point-index;
  spare_elements : spare_elements l.front ≡ spare_elements l.initial.front;
}
