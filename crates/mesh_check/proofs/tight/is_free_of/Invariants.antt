use Rattle.std.proofs.Common.{take}
use Rattle.mesh_check.specs.Near.{IsFreeOf}
use Rattle.mesh_check.proofs.tight.is_free_of.Given as goal

abbrev pub invariant-loop-hit : goal.invariant-loop-hit
invariant-loop-hit l = IsFreeOf (take l.hit-index l.hits) l.place
