use Rattle.mesh_check.proofs.NoCornerHangs.{spared, none_hangs}
use Rattle.mesh_check.proofs.laws.law_tight.Goals as goal

pub returns-clause-spared : goal.returns-clause-spared
returns-clause-spared c = λ g m i k geometry names fill s. spared g m geometry names fill i k s

pub returns-clause-tight : goal.returns-clause-tight
returns-clause-tight c = none_hangs
