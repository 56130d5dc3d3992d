use Rattle.rule_reader.proofs.GoodFile.{one_value}
use Rattle.rule_reader.proofs.laws.one_value.Goals as goal

pub returns : goal.returns
returns c = one_value
