use Rattle.call_words.proofs.Exclusion.{one_command, one_fault, never_both}
use Rattle.call_words.proofs.laws.one_answer.Goals as goal

pub returns-clause-task : goal.returns-clause-task
returns-clause-task c = one_command

pub returns-clause-fault : goal.returns-clause-fault
returns-clause-fault c = one_fault

pub returns-clause-never_both : goal.returns-clause-never_both
returns-clause-never_both c = never_both
