use Rattle.std.proofs.Common.{arith, subst, sym}
use Rattle.front_chain.specs.Front.{AreNear}
use Rattle.rule_match.proofs.Gathered.{begins, goes_on, all_gathered}
use Rattle.rule_match.proofs.around.add_lines.Goals as goal

pub loop-number-init : goal.loop-number-init
loop-number-init c = begins c.args.front.now c.args.frame.now c.args.lines.now.items _

pub loop-number-preserved : goal.loop-number-preserved
loop-number-preserved c = goes_on _ c.loop-number.number-index c.loop-number.invariant c.in_ok-add_line.ensures

pub returns-clause-more : goal.returns-clause-more
returns-clause-more c = c.loop-number.invariant.more

pub returns-clause-all : goal.returns-clause-all
returns-clause-all c = λ n inside.
    all_gathered c.loop-number.number-index c.lines-lines.ensures.holds
    (subst (AreNear c.args.front.now c.args.near.now) (sym c.deref-number-items.ensures.value) c.in_ok-numbers.ensures.near) (omega (arith, c.loop-number-test.false)) c.loop-number.invariant n inside
