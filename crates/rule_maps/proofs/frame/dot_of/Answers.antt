use Rattle.rule_maps.proofs.Frames.{dot_inner, dot_within, turn_fits, turn_back}
use Rattle.rule_maps.specs.Frame.{dot}
use Rattle.rule_maps.proofs.frame.dot_of.Goals as goal

pub overflow_add-result : goal.overflow_add-result
overflow_add-result c = rw (dot_inner c.args.a c.args.b c.requires.a_small c.requires.b_small) (turn_fits (dot c.args.a c.args.b) (dot_within c.args.a c.args.b c.requires.a_small c.requires.b_small))

pub returns-clause-value : goal.returns-clause-value
returns-clause-value c = turn_back _ (dot c.args.a c.args.b) (dot_inner c.args.a c.args.b c.requires.a_small c.requires.b_small) (dot_within c.args.a c.args.b c.requires.a_small c.requires.b_small)

pub returns-clause-small : goal.returns-clause-small
returns-clause-small c = rw (turn_back _ (dot c.args.a c.args.b) (dot_inner c.args.a c.args.b c.requires.a_small c.requires.b_small) (dot_within c.args.a c.args.b c.requires.a_small c.requires.b_small)) (dot_within c.args.a c.args.b c.requires.a_small c.requires.b_small)
