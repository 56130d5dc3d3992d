use Rattle.mesh_run.proofs.OneRun.{one_domain_run, one_end, one_next, one_run}
use Rattle.mesh_run.proofs.laws.law_one_run.Goals as goal

pub returns : goal.returns
returns c = record { whole = one_run; domain = one_domain_run; next = one_next; ends = one_end }
