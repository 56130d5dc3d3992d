use native.Mathlib.Omega.{arith}
use Rattle.rule_match.proofs.NewParts.{numbers_pushed}
use Rattle.rule_match.proofs.making.all_numbers.Goals as goal

pub loop-preserved : goal.loop-preserved
loop-preserved c = (numbers_pushed c.args.points.now c.args.listed c.loop.next c.loop.index c.args.made.now c.loop.numbers.items c.push.new.self.items c.loop.invariant.0 c.loop.invariant.1 c.loop-test.true c.in_ok-push.ensures.items, omega (arith, c.loop.invariant.1))
