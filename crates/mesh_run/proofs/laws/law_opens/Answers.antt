use Rattle.mesh_run.proofs.Begun.{begun, front_opens, same_front}
use Rattle.mesh_run.proofs.laws.law_opens.Goals as goal

pub returns : goal.returns
returns c = record { opening = begun; numbered = same_front; edges = front_opens }
