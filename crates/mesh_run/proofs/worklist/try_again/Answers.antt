use Rattle.mesh_run.proofs.Tried.{put_on}
use Rattle.mesh_run.proofs.worklist.try_again.Goals as goal

pub returns-in-Ok : goal.returns-in-Ok
returns-in-Ok c = put_on c.args.known.now c.in-Some.work c.insert.new.self c.args.turn c.in-Some.is c.in-Ok.ensures.updates
