use Rattle.std.proofs.Common.{◌∙◌, arith}
use Rattle.word_scan.proofs.Walk.{note_goes_on, note_stops, note_stops_all}
use Rattle.word_scan.proofs.TokenWalk.{remark_goes_on, remark_stops, remark_stops_all}
use Rattle.word_scan.proofs.spaced.note_end.Goals as goal

pub loop-end-preserved : goal.loop-end-preserved
loop-end-preserved c =
    let i = c.loop-end.end in
    let text = c.args.text.now in (
      omega arith,
      omega arith,
      λ at. c.loop-end.invariant.2 at ∙ note_goes_on at i text c.loop-end-test.true c.if-text-end-ne10.true,
      λ at. c.loop-end.invariant.3 at ∙ remark_goes_on at i text c.loop-end-test.true c.if-text-end-ne10.true,
    )

pub returns-else-text-end-ne10-clause-same : goal.returns-else-text-end-ne10-clause-same
returns-else-text-end-ne10-clause-same c = λ at. c.loop-end.invariant.2 at ∙ note_stops at c.loop-end.end c.args.text.now c.loop-end-test.true c.if-text-end-ne10.false

pub returns-else-text-end-ne10-clause-tokens : goal.returns-else-text-end-ne10-clause-tokens
returns-else-text-end-ne10-clause-tokens c = λ at. c.loop-end.invariant.3 at ∙ remark_stops at c.loop-end.end c.args.text.now c.loop-end-test.true c.if-text-end-ne10.false

pub returns-after-loop-end-clause-same : goal.returns-after-loop-end-clause-same
returns-after-loop-end-clause-same c = λ at. c.loop-end.invariant.2 at ∙ note_stops_all at c.loop-end.end c.args.text.now c.loop-end-test.false

pub returns-after-loop-end-clause-tokens : goal.returns-after-loop-end-clause-tokens
returns-after-loop-end-clause-tokens c = λ at. c.loop-end.invariant.3 at ∙ remark_stops_all at c.loop-end.end c.args.text.now c.loop-end-test.false
