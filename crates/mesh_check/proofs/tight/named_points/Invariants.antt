use Rattle.std.proofs.Common.{◌≡◌, length}
use Rattle.mesh_check.proofs.Noted.{AreNamed}
use Rattle.mesh_check.proofs.tight.named_points.Given as goal

abbrev pub invariant-loop-element : goal.invariant-loop-element
invariant-loop-element l = (length l.noted.items ≡ l.count) × AreNamed l.noted.items l.elements l.element-index
