use Rattle.std.proofs.Common.{◌∙◌, ap}
use Rattle.admission.specs.Around.{ahead}
use Rattle.admission.proofs.Ahead.{all_ahead, positive_above}
use Rattle.admission.proofs.near.first_of.Goals as goal

pub returns-clause-all : goal.returns-clause-all
returns-clause-all c = ap (ahead c.args.front.now.lines) c.above.ensures.value ∙ all_ahead c.args.front.now.lines 0 (positive_above c.args.front.now.lines c.lines-lines.ensures.holds.positive)
