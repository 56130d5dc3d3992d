use Rattle.sample_run.proofs.Sampling.{one_line}
use Rattle.sample_run.proofs.laws.law_one_line.Goals as goal

pub returns : goal.returns
returns c = one_line
