use Rattle.std.proofs.Common.{◌+◌, ◌≤◌}
use Rattle.mesh_run.specs.Remembered.{AreTrue, setting_in, state_in}
use Rattle.mesh_run.specs.Trials.{due_in}
use Rattle.mesh_run.specs.Worklist.{AreToTry, tries_left}
use Rattle.mesh_run.proofs.search.next_in.Given as goal

abbrev pub invariant-loop-turn : goal.invariant-loop-turn
invariant-loop-turn g l = record {
  remembered : AreTrue l.refusals (setting_in l.scene) (state_in l.scene);
  to_try : AreToTry l.work l.scene.front.now.lines l.refusals.least.items l.scene.last;
  few : l.steps + due_in l.scene l.refusals ≤ l.initial.steps + due_in l.scene l.initial.refusals;
}

abbrev pub decreases-loop-turn : goal.decreases-loop-turn
decreases-loop-turn g l = tries_left l.scene.last l.work.keys
