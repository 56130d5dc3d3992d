use Rattle.std.proofs.Common.{◌∙◌, ap, sym, subst}
use Rattle.admission.specs.Around.{ahead, IsThere}
use Rattle.admission.proofs.Ahead.{all_ahead, positive_above, there_above}
use Rattle.mesh_run.proofs.left.first_line.Goals as goal

pub returns-clause-all : goal.returns-clause-all
returns-clause-all c =
    let lines = c.args.front.now.lines in
    ap (ahead lines) c.next_line.ensures ∙ all_ahead lines 0 (positive_above lines c.lines-lines.ensures.holds.positive)

pub returns-clause-there : goal.returns-clause-there
returns-clause-there c = subst (IsThere c.args.front.now.lines) (sym c.next_line.ensures) (there_above c.args.front.now.lines 0)
