use Rattle.state_law.proofs.Foreign.{shared_place}
use Rattle.state_law.proofs.laws.law_shared.Goals as goal

pub returns : goal.returns
returns c = shared_place
