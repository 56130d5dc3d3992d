use Rattle.std.proofs.Common.{◌∙◌, sym, arith}
use Rattle.word_scan.proofs.Walk.{word_begins, word_goes_on, word_ends, word_ends_all}
use Rattle.word_scan.proofs.spaced.word_end.Goals as goal

pub loop-end-init : goal.loop-end-init
loop-end-init c = (omega arith, omega arith, λ at. word_begins at c.args.start c.args.text.now c.requires.inside c.requires.word)

pub loop-end-preserved : goal.loop-end-preserved
loop-end-preserved c =
    (omega arith, omega arith, λ at. c.loop-end.invariant.2 at ∙ word_goes_on c.args.start at c.loop-end.end c.args.text.now c.loop-end-test.true (sym c.is_white.ensures ∙ c.if-not-is_white.true))

pub returns-else-not-is_white-clause-word : goal.returns-else-not-is_white-clause-word
returns-else-not-is_white-clause-word c = λ at. c.loop-end.invariant.2 at ∙ word_ends c.args.start at c.loop-end.end c.args.text.now c.loop-end-test.true (sym c.is_white.ensures ∙ c.if-not-is_white.false)

pub returns-after-loop-end-clause-word : goal.returns-after-loop-end-clause-word
returns-after-loop-end-clause-word c = λ at. c.loop-end.invariant.2 at ∙ word_ends_all c.args.start at c.loop-end.end c.args.text.now c.loop-end-test.false
