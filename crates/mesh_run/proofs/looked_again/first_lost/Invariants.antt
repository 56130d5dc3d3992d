use Rattle.mesh_run.specs.Remembered.{setting_in, state_in}
use Rattle.mesh_run.proofs.LookedAt.{AreKeptBelow}
use Rattle.mesh_run.proofs.looked_again.first_lost.Given as goal

abbrev pub invariant-loop-n : goal.invariant-loop-n
invariant-loop-n l = AreKeptBelow (setting_in l.scene) (state_in l.scene) l.region l.initial.refusals l.refusals l.n
