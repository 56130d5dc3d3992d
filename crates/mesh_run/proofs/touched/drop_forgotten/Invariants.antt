use Rattle.mesh_run.specs.Remembered.{AreDropped}
use Rattle.mesh_run.proofs.touched.drop_forgotten.Given as goal

abbrev pub invariant-loop-hit : goal.invariant-loop-hit
invariant-loop-hit l = AreDropped l.initial.refusals l.refusals
