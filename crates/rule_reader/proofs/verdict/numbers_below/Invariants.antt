use Rattle.std.proofs.Common.{◌≡◌}
use Rattle.rule_reader.specs.Verdict.{numbers_below}
use Rattle.rule_reader.proofs.verdict.numbers_below.Given as goal

abbrev pub invariant-loop-number : goal.invariant-loop-number
invariant-loop-number l = l.numbers.items ≡ numbers_below l.number
