use Rattle.std.proofs.Common.{arith}
use Rattle.rule_match.proofs.Gathered.{these_begin, these_go_on, these_gathered}
use Rattle.rule_match.proofs.around.lines_of_these.Goals as goal

pub loop-number-init : goal.loop-number-init
loop-number-init c = these_begin c.args.front.now c.args.frame.now c.new-lines.result.items c.args.these.now c.new-lines.ensures.items

pub loop-number-preserved : goal.loop-number-preserved
loop-number-preserved c = these_go_on c.args.these.now c.loop-number.number-index c.loop-number.invariant c.in_ok-add_lines_of.ensures.more c.in_ok-add_lines_of.ensures.all

pub returns-clause-only : goal.returns-clause-only
returns-clause-only c = c.loop-number.invariant.only

pub returns-clause-all : goal.returns-clause-all
returns-clause-all c = these_gathered c.loop-number.number-index (omega (arith, c.loop-number-test.false)) c.loop-number.invariant
