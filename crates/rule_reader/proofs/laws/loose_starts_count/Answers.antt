use Rattle.rule_reader.proofs.Starts.{starts_counted, starts_there}
use Rattle.rule_reader.proofs.laws.loose_starts_count.Goals as goal

pub returns-clause-counted : goal.returns-clause-counted
returns-clause-counted c = starts_counted

pub returns-clause-there : goal.returns-clause-there
returns-clause-there c = starts_there
