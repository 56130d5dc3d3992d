use Rattle.run_log.proofs.First.{first_fault}
use Rattle.run_log.proofs.laws.first_fault.Goals as goal

pub returns : goal.returns
returns c = first_fault
