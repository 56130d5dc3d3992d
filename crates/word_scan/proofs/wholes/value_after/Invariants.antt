use Rattle.std.proofs.Common.{◌≡◌, ◌+◌, ◌-◌, ◌*◌, ◌^◌, ◌≤◌, length, drop, true}
use Rattle.std.specs.Str.{all_ascii_digits}
use Rattle.std.specs.Str.Parse.{digits_value_after}
use Rattle.word_scan.proofs.wholes.value_after.Given as goal

abbrev pub invariant-loop-digit : goal.invariant-loop-digit
invariant-loop-digit l = (digits_value_after 10 l.value (drop l.digit-index l.digits) ≡ digits_value_after 10 l.start l.digits)
    × (all_ascii_digits (drop l.digit-index l.digits) ≡ true)
    × ((l.value + 1) * 10 ^ (length l.digits - l.digit-index) ≤ (l.start + 1) * 10 ^ length l.digits)
