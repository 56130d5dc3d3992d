use Rattle.rule_maps.proofs.Frames.{near_then, near_else}
use Rattle.rule_maps.proofs.frame.is_near.Goals as goal

pub returns-then-far-offset : goal.returns-then-far-offset
returns-then-far-offset c = near_then c.args.a.now c.args.b.now c.args.h.now c.requires.a_on c.requires.b_on c.requires.high c.if-far-offset.true

pub returns-else-far-offset : goal.returns-else-far-offset
returns-else-far-offset c = near_else c.args.a.now c.args.b.now c.args.h.now c.requires.a_on c.requires.b_on c.requires.high c.if-far-offset.false
