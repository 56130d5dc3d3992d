use Rattle.std.proofs.Common.{length}
use Rattle.admission.specs.Around.{ahead, IsThere}
use Rattle.mesh_run.proofs.LinesUp.{AreOnTo}
use Rattle.mesh_run.proofs.worklist.worklist_of.Given as goal

abbrev pub invariant-loop-next : goal.invariant-loop-next
invariant-loop-next l = record {
  there : IsThere l.scene.front.now.lines l.next;
  on : AreOnTo l.work l.scene.front.now.lines l.refusals.least.items l.scene.last l.next;
}

abbrev pub decreases-loop-next : goal.decreases-loop-next
decreases-loop-next l = length (ahead l.scene.front.now.lines l.next)
