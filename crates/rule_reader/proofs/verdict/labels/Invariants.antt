use Rattle.std.proofs.Common.{◌≡◌, ◌+◌, take, fold}
use Rattle.rule_reader.specs.Verdict.{joined, numbers_below}
use Rattle.rule_reader.proofs.verdict.labels.Given as goal

abbrev pub invariant-loop-line : goal.invariant-loop-line
invariant-loop-line l = l.labels.items ≡ fold joined (numbers_below (l.points + 1)) (take l.line-index l.lines)
