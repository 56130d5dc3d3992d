use Rattle.run_log.proofs.Answered.{one_refusal, not_both, one_or_other}
use Rattle.run_log.proofs.laws.one_refusal.Goals as goal

pub returns-clause-one : goal.returns-clause-one
returns-clause-one c = one_refusal

pub returns-clause-none : goal.returns-clause-none
returns-clause-none c = not_both

pub returns-clause-each : goal.returns-clause-each
returns-clause-each c = one_or_other
