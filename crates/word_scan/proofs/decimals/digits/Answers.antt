use Rattle.std.proofs.Common.{◌≡◌, ◌<◌, false, length, get_or, sym, ◌∙◌, refl, arith}
use Rattle.std.specs.List.{prefix_len}
use Rattle.std.specs.Char.{is_ascii_digit}
use Rattle.std.proofs.lemmas.List.Sums.{prefix_len_is}
use Rattle.word_scan.proofs.Runs.{run_is_digits}
use Rattle.word_scan.proofs.decimals.digits.Goals as goal
use Rattle.word_scan.proofs.decimals.digits.Goals.{After-split_at, then-loop-end-test+else-is_ascii_digit, else-loop-end-test}

counted : (c : After-split_at) → prefix_len is_ascii_digit c.args.bytes.now ≡ c.loop-end.end
counted c =
    let stops : c.loop-end.end < length c.args.bytes.now → is_ascii_digit (get_or c.args.bytes.now c.loop-end.end 0) ≡ false = λ inside. elim c.loop-end-test.branch [
      | then-loop-end-test+else-is_ascii_digit w ↦ sym w.is_ascii_digit.ensures.value ∙ w.if-is_ascii_digit.false
      | else-loop-end-test w ↦ absurd (omega arith)
    ] in
    prefix_len_is is_ascii_digit c.args.bytes.now c.loop-end.end 0 c.loop-end.invariant.0 c.loop-end.invariant.1 stops

pub returns-clause-value : goal.returns-clause-value
returns-clause-value c = rw (c.split_at.ensures.front, c.split_at.ensures.back, counted c) refl

pub returns-clause-digits : goal.returns-clause-digits
returns-clause-digits c = rw (c.split_at.ensures.front, ← counted c) (run_is_digits c.args.bytes.now)
