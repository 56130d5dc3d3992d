use Rattle.rule_maps.proofs.Frames.{one_frame}
use Rattle.rule_maps.proofs.laws.law_one_frame.Goals as goal

pub returns : goal.returns
returns c = one_frame
