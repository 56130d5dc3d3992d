use Rattle.run_log.specs.Ranges.{log_of}
use Rattle.run_log.proofs.Again.{read_again}
use Rattle.run_log.proofs.laws.read_again.Goals as goal

pub returns : goal.returns
returns c = λ w r. read_again (log_of w) r
