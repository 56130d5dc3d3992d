use Rattle.std.proofs.Common.{◌≡◌, take}
use Rattle.mesh_run.proofs.applying.copied.Given as goal

abbrev pub invariant-loop-element : goal.invariant-loop-element
invariant-loop-element l = l.copies.items ≡ take l.element-index l.elements
