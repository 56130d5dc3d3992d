use Rattle.std.proofs.Common.{◌≡◌, ◌++◌, take}
use Rattle.rule_reader.specs.Normal.{more_numbers_text}
use Rattle.rule_reader.proofs.printing.put_more_numbers.Given as goal

abbrev pub invariant-loop-number : goal.invariant-loop-number
invariant-loop-number l = l.out.items ≡ l.initial.out.items ++ more_numbers_text (take l.number-index l.numbers)
