use Rattle.rule_maps.proofs.Putting.{upward_is}
use Rattle.rule_maps.proofs.placing.upward.Goals as goal

pub overflow_add-result : goal.overflow_add-result
overflow_add-result c = (upward_is c.args.at.now.u c.args.at.now.v c.args.e.now c.requires.u c.requires.v c.requires.e).fits

pub returns-clause-value : goal.returns-clause-value
returns-clause-value c = (upward_is c.args.at.now.u c.args.at.now.v c.args.e.now c.requires.u c.requires.v c.requires.e).value

pub returns-clause-small : goal.returns-clause-small
returns-clause-small c = (upward_is c.args.at.now.u c.args.at.now.v c.args.e.now c.requires.u c.requires.v c.requires.e).small
