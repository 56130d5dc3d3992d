use Rattle.std.proofs.Common.{◌≡◌, length}
use Rattle.mesh_check.proofs.Noted.{AreNoted}
use Rattle.mesh_check.proofs.tight.note.Given as goal

abbrev pub invariant-loop-corner : goal.invariant-loop-corner
invariant-loop-corner l = (length l.noted.items ≡ length l.initial.noted.items) × AreNoted l.initial.noted.items l.noted.items l.corners l.corner-index
