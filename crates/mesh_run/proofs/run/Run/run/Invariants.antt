use Rattle.std.proofs.Common.{◌+◌}
use Rattle.mesh_run.specs.RunState.{GoesOn, area_left}
use Rattle.mesh_run.proofs.TrialsMade.{HasPaid}
use Rattle.mesh_run.proofs.run.Run.run.Given as goal

abbrev pub invariant-loop-self : goal.invariant-loop-self
invariant-loop-self g l = record {
  goes_on : GoesOn l.initial.self.run l.self.run;
  paid : HasPaid l.initial.self.run l.self.run (l.initial.steps + l.initial.self.due) (l.steps + l.self.due);
}

abbrev pub decreases-loop-self : goal.decreases-loop-self
decreases-loop-self g l = area_left l.self.run
