use Rattle.rule_match.proofs.Gathered.{IsUnderWay}
use Rattle.rule_match.proofs.around.add_lines.Given as goal

abbrev pub invariant-loop-number : goal.invariant-loop-number
invariant-loop-number l = IsUnderWay l.front l.frame l.initial.lines.items l.lines.items l.number-items l.number-index
