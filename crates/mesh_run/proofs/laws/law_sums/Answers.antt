use Rattle.mesh_run.proofs.Covered.{covered, reached_all}
use Rattle.mesh_run.proofs.Written.{all_covered}
use Rattle.mesh_run.proofs.laws.law_sums.Goals as goal

pub returns : goal.returns
returns c = record { whole = all_covered; covered = covered; kept = reached_all }
