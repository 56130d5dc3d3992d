use Rattle.geom_check.proofs.Untangled.{not_met}
use Rattle.geom_check.proofs.spans.do_tangle.Goals as goal

pub returns-else-meet : goal.returns-else-meet
returns-else-meet c = not_met c.args.first.now c.args.second.now c.meet.result c.requires.first c.requires.second c.meet.ensures
