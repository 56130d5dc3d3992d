use Rattle.mesh_run.specs.Worklist.{AreTriedFirst}
use Rattle.mesh_run.proofs.worklist.try_first.Given as goal

abbrev pub invariant-loop-line : goal.invariant-loop-line
invariant-loop-line l = AreTriedFirst l.from l.line l.initial.known l.known
