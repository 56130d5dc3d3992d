use Rattle.rule_maps.proofs.Frames.{cross_inner, cross_within, turn_fits, turn_back}
use Rattle.rule_maps.specs.Frame.{cross}
use Rattle.rule_maps.proofs.frame.cross_of.Goals as goal

pub overflow_sub-result : goal.overflow_sub-result
overflow_sub-result c = rw (cross_inner c.args.a c.args.b c.requires.a_small c.requires.b_small) (turn_fits (cross c.args.a c.args.b) (cross_within c.args.a c.args.b c.requires.a_small c.requires.b_small))

pub returns-clause-value : goal.returns-clause-value
returns-clause-value c = turn_back _ (cross c.args.a c.args.b) (cross_inner c.args.a c.args.b c.requires.a_small c.requires.b_small) (cross_within c.args.a c.args.b c.requires.a_small c.requires.b_small)

pub returns-clause-small : goal.returns-clause-small
returns-clause-small c = rw (turn_back _ (cross c.args.a c.args.b) (cross_inner c.args.a c.args.b c.requires.a_small c.requires.b_small) (cross_within c.args.a c.args.b c.requires.a_small c.requires.b_small)) (cross_within c.args.a c.args.b c.requires.a_small c.requires.b_small)
