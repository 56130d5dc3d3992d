use Rattle.std.proofs.Common.{ℕ, ◌+◌, ◌*◌, ◌^◌, ◌≤◌, ◌∙◌, sym, length, arith}
use Rattle.word_scan.proofs.Runs.{reads_digit, room_left, room_within}
use Rattle.word_scan.proofs.wholes.value_after.Goals as goal
use Rattle.word_scan.proofs.wholes.value_after.Goals.{In-loop-digit, After-from}

within : (value start n i : ℕ) → (value + 1) * 10 ^ i ≤ (start + 1) * 10 ^ n → (start + 1) * 10 ^ n ≤ 10 ^ 30 → value + 1 ≤ 10 ^ 30
within value start n i h room = room_within (value + 1) i (10 ^ 30) (omega (arith, h, room))

pub overflow_mul-value : goal.overflow_mul-value
overflow_mul-value c =
    let small = within c.loop-digit.value c.args.start _ _ c.loop-digit.invariant.2 c.requires.room in
    omega (arith, small)

pub overflow_add-value : goal.overflow_add-value
overflow_add-value c =
    let small = within c.loop-digit.value c.args.start _ _ c.loop-digit.invariant.2 c.requires.room in
    let digit = reads_digit c.args.digits.now c.loop-digit.digit-index c.loop-digit.value c.loop-digit-test.true c.loop-digit.invariant.1 in
    omega (arith, small, digit.high, c.from.ensures)

pub loop-digit-preserved : goal.loop-digit-preserved
loop-digit-preserved c =
    let digit = reads_digit c.args.digits.now c.loop-digit.digit-index c.loop-digit.value c.loop-digit-test.true c.loop-digit.invariant.1 in
    rw c.from.ensures (sym digit.value ∙ c.loop-digit.invariant.0, digit.rest, room_left c.loop-digit.value _ (length c.args.digits.now) c.loop-digit.digit-index _ c.loop-digit-test.true (omega (arith, digit.high)) c.loop-digit.invariant.2)
