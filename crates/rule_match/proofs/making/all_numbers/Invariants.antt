use Rattle.std.proofs.Common.{◌≡◌, ◌+◌, ◌++◌, take}
use Rattle.rule_match.specs.Applied.{numbers_from}
use Rattle.rule_match.proofs.making.all_numbers.Given as goal

abbrev pub invariant-loop : goal.invariant-loop
invariant-loop l = (l.numbers.items ≡ l.points ++ numbers_from l.listed (take l.index l.made)) × (l.next ≡ l.listed + l.index)
