use Rattle.rule_match.proofs.OneLeast.{one_least}
use Rattle.rule_match.proofs.laws.law_one.Goals as goal

pub returns : goal.returns
returns c = one_least
