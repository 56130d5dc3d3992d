use Rattle.std.proofs.Common.{All, take}
use Rattle.front_chain.specs.Front.{state_of}
use Rattle.mesh_run.specs.Kept.{AreFewerNotes, DoNotesStand}
use Rattle.mesh_run.proofs.touched.drop_stale.Given as goal

abbrev pub invariant-loop-hit : goal.invariant-loop-hit
invariant-loop-hit l = record {
  fewer : AreFewerNotes l.initial.notes l.notes;
  stand : All (λ e. DoNotesStand (state_of l.front) l.notes e.value) (take l.hit-index l.hits);
}
