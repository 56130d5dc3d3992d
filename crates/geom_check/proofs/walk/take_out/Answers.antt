use Rattle.std.proofs.Common.{arith}
use Rattle.geom_check.proofs.WalkSteps.{settled_out}
use Rattle.geom_check.proofs.walk.take_out.Goals as goal

pub returns-clause-settled : goal.returns-clause-settled
returns-clause-settled c e =
    settled_out c.args.risers.now c.args.walk.now.order.items c.remove.new.self.items c.args.walk.now.changed.items c.push.new.self.items c.args.walk.now.last c.place_for-gap.result (omega (arith, c.if-gap-walk.false)) (omega (arith, c.if-gap-len.false, c.len.ensures))
    c.remove.ensures.items c.in_ok-push.ensures.items c.requires.settled
