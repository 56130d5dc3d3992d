use Rattle.std.proofs.Common.{◌∙◌, sym}
use Rattle.admission.proofs.Ahead.{next_ahead}
use Rattle.mesh_run.proofs.left.row_of.Goals as goal

pub returns : goal.returns
returns c = next_ahead c.args.front.now.lines c.args.front.now.next c.args.line c.unwrap-from.result c.lines-lines.ensures.holds.rising (sym c.line.ensures ∙ c.unwrap-from.ensures)
