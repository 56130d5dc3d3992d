use Rattle.rule_match.proofs.ReachBoxes.{far_by_box}
use Rattle.rule_match.proofs.laws.law_reach_box.Goals as goal

pub returns : goal.returns
returns c = far_by_box
