use Rattle.rule_maps.proofs.Summing.{number_within, weighted_is}
use Rattle.rule_maps.proofs.sums.weighted.Goals as goal

pub returns-clause-value : goal.returns-clause-value
returns-clause-value c = (weighted_is c.args.term.now.coefficient c.args.term.now.of_y c.part.ensures c.seen-seen.ensures.along c.seen-seen.ensures.left (number_within _ c.requires.term.coefficient) c.seen-seen.ensures.along_small c.seen-seen.ensures.left_small).value

pub returns-clause-small : goal.returns-clause-small
returns-clause-small c = (weighted_is c.args.term.now.coefficient c.args.term.now.of_y c.part.ensures c.seen-seen.ensures.along c.seen-seen.ensures.left (number_within _ c.requires.term.coefficient) c.seen-seen.ensures.along_small c.seen-seen.ensures.left_small).small
