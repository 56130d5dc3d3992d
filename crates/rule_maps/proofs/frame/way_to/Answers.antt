use Rattle.rule_maps.proofs.Frames.{way_back}
use Rattle.rule_maps.proofs.frame.way_to.Goals as goal

pub returns-clause-value : goal.returns-clause-value
returns-clause-value c = way_back c.args.from c.args.to c.requires.from_on c.requires.to_on
