use Rattle.std.proofs.Common.{◌≡◌, ◌∙◌, get_or, true, sym, arith}
use Rattle.word_scan.specs.Bytes.{is_white}
use Rattle.word_scan.proofs.Walk.{space_passes, note_begins}
use Rattle.word_scan.proofs.TokenWalk.{space_is_passed, remark_begins}
use Rattle.word_scan.proofs.spaced.gap_end.Goals as goal

pub loop-end-preserved-then-is_white : goal.loop-end-preserved-then-is_white
loop-end-preserved-then-is_white c =
    let i = c.loop-end.end in
    let text = c.args.text.now in
    let white : is_white (get_or text i 0) ≡ true = sym c.is_white.ensures ∙ c.if-is_white.true in (
      omega arith,
      omega arith,
      λ at. c.loop-end.invariant.2 at ∙ space_passes at i text c.loop-end-test.true white,
      λ at. c.loop-end.invariant.3 at ∙ space_is_passed at i text c.loop-end-test.true white,
    )

pub loop-end-preserved : goal.loop-end-preserved
loop-end-preserved c =
    let i = c.loop-end.end in
    let text = c.args.text.now in
    let passed = c.note_end-end.ensures in (
      omega (arith, passed.from),
      passed.within,
      λ at. c.loop-end.invariant.2 at ∙ note_begins at i text c.loop-end-test.true c.if-text-end-eq35.true ∙ passed.same at,
      λ at. c.loop-end.invariant.3 at ∙ remark_begins at i text c.loop-end-test.true c.if-text-end-eq35.true ∙ passed.tokens at,
    )
