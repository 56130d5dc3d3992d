use Rattle.std.proofs.Common.{◌≡◌, ◌≤◌}
use Rattle.rule_reader.specs.Verdict.{own_below}
use Rattle.rule_reader.proofs.verdict.own_below.Given as goal

abbrev pub invariant-loop-number : goal.invariant-loop-number
invariant-loop-number l = (l.count ≡ own_below l.labels l.number) × (l.count ≤ l.number)
