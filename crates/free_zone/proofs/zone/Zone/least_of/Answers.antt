use native.Mathlib.Omega.{arith}
use Rattle.free_zone.specs.InTheWay.{mapping}
use Rattle.free_zone.proofs.Listed.{none_yet, one_more, all_passed}
use Rattle.free_zone.proofs.zone.Zone.least_of.Goals as goal

pub loop-number-init : goal.loop-number-init
loop-number-init c = none_yet c.args.self.now (mapping c.args.front.now c.args.c.now c.args.mapped.now) c.args.numbers.now

pub loop-number-preserved : goal.loop-number-preserved
loop-number-preserved c = one_more c.args.numbers.now c.loop-number.number-index c.loop-number.invariant c.pass_line-least.ensures

pub returns : goal.returns
returns c = all_passed c.args.numbers.now c.loop-number.number-index (omega (arith, c.loop-number-test.false)) c.loop-number.invariant
