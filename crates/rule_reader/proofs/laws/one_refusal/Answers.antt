use Rattle.rule_reader.proofs.OneRefusal.{one_refusal, unrefused}
use Rattle.rule_reader.proofs.laws.one_refusal.Goals as goal

pub returns-clause-one : goal.returns-clause-one
returns-clause-one c = one_refusal

pub returns-clause-none : goal.returns-clause-none
returns-clause-none c = unrefused
