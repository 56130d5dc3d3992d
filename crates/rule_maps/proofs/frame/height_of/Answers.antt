use Rattle.rule_maps.proofs.Frames.{height_back}
use Rattle.rule_maps.proofs.frame.height_of.Goals as goal

pub returns-clause-value : goal.returns-clause-value
returns-clause-value c = (height_back c.args.len c.args.size c.requires.long c.requires.not_longer c.requires.positive c.requires.small c.div_euclid.ensures c.max.ensures.value c.min.ensures.value).value

pub returns-clause-least : goal.returns-clause-least
returns-clause-least c = (height_back c.args.len c.args.size c.requires.long c.requires.not_longer c.requires.positive c.requires.small c.div_euclid.ensures c.max.ensures.value c.min.ensures.value).least

pub returns-clause-greatest : goal.returns-clause-greatest
returns-clause-greatest c = (height_back c.args.len c.args.size c.requires.long c.requires.not_longer c.requires.positive c.requires.small c.div_euclid.ensures c.max.ensures.value c.min.ensures.value).greatest
