use Rattle.std.proofs.Common.{◌+◌, ◌≤◌, [], take}
use Rattle.front_chain.specs.Front.{spare_elements}
use Rattle.admission.specs.Admission.{HasGlued}
use Rattle.mesh_run.proofs.applying.glue_elements.Given as goal

abbrev pub invariant-loop-element : goal.invariant-loop-element
invariant-loop-element l = record {
  spare : spare_elements l.initial.front ≤ spare_elements l.front + l.element-index;
  glued : HasGlued l.initial.front [] (take l.element-index l.elements) l.front;
}
