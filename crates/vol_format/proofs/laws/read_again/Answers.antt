use Rattle.vol_format.proofs.Again.{read_again}
use Rattle.vol_format.proofs.laws.read_again.Goals as goal

pub returns : goal.returns
returns c = read_again
