use Rattle.mesh_run.proofs.Changed.{bounded}
use Rattle.mesh_run.proofs.laws.law_trials.Goals as goal

pub returns : goal.returns
returns c = bounded
