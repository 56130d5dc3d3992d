use Rattle.rule_maps.proofs.Summing.{number_within, rested_within}
use Rattle.rule_maps.proofs.sums.rested.Goals as goal

pub returns-clause-small : goal.returns-clause-small
returns-clause-small c = rested_within c.args.term.now.coefficient c.rest_of.result (number_within _ c.requires.term.coefficient) c.rest_of.ensures.small
