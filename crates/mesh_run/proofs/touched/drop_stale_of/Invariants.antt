use Rattle.front_chain.specs.Front.{state_of}
use Rattle.mesh_run.proofs.Stale.{AreDroppedTo}
use Rattle.mesh_run.proofs.touched.drop_stale_of.Given as goal

abbrev pub invariant-loop-n : goal.invariant-loop-n
invariant-loop-n l = AreDroppedTo (state_of l.front) l.initial.notes l.notes l.fn.region l.n
