use Rattle.mesh_run.proofs.Tried.{none_first, one_more_first}
use Rattle.mesh_run.proofs.worklist.try_first.Goals as goal

pub loop-line-init : goal.loop-line-init
loop-line-init c = none_first c.args.from c.args.known.now

pub loop-line-preserved : goal.loop-line-preserved
loop-line-preserved c = one_more_first c.args.from c.loop-line.line c.args.known.now c.loop-line.known c.try_again.new.known c.loop-line.invariant c.try_again.ensures
