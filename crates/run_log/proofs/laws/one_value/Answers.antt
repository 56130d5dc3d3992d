use Rattle.run_log.proofs.Answered.{one_value}
use Rattle.run_log.proofs.laws.one_value.Goals as goal

pub returns : goal.returns
returns c = one_value
