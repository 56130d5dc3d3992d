use Rattle.mesh_run.proofs.Conforming.{all_conform}
use Rattle.mesh_run.proofs.laws.law_conform.Goals as goal

pub returns : goal.returns
returns c = all_conform
