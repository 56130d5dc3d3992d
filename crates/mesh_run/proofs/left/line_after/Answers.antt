use Rattle.std.proofs.Common.{sym, subst}
use Rattle.admission.specs.Around.{IsThere}
use Rattle.admission.proofs.Ahead.{there_above}
use Rattle.mesh_run.proofs.left.line_after.Goals as goal

pub returns-clause-there : goal.returns-clause-there
returns-clause-there c = subst (IsThere c.args.front.now.lines) (sym c.next_line.ensures) (there_above c.args.front.now.lines c.args.line)
