use Rattle.std.proofs.Common.{◌≡◌, ◌++◌, take}
use Rattle.std.specs.Prelude.{string_bytes}
use Rattle.text_rows.specs.Rows.{spaced_signed}
use Rattle.text_rows.proofs.write_spaced_signed.Given as goal

abbrev pub invariant-loop-number : goal.invariant-loop-number
invariant-loop-number l = string_bytes l.text ≡ string_bytes l.initial.text ++ spaced_signed (take l.number-index l.numbers)
