use Rattle.rule_maps.proofs.Putting.{across_is}
use Rattle.rule_maps.proofs.placing.across.Goals as goal

pub overflow_sub-result : goal.overflow_sub-result
overflow_sub-result c = (across_is c.args.at.now.u c.args.at.now.v c.args.e.now c.requires.u c.requires.v c.requires.e).fits

pub returns-clause-value : goal.returns-clause-value
returns-clause-value c = (across_is c.args.at.now.u c.args.at.now.v c.args.e.now c.requires.u c.requires.v c.requires.e).value

pub returns-clause-small : goal.returns-clause-small
returns-clause-small c = (across_is c.args.at.now.u c.args.at.now.v c.args.e.now c.requires.u c.requires.v c.requires.e).small
