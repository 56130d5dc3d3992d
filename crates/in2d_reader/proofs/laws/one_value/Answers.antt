use Rattle.in2d_reader.proofs.OneRefusal.{one_value}
use Rattle.in2d_reader.proofs.laws.one_value.Goals as goal

pub returns : goal.returns
returns c = one_value
