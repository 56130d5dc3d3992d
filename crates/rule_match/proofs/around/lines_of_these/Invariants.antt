use Rattle.rule_match.proofs.Gathered.{AreUnderWay}
use Rattle.rule_match.proofs.around.lines_of_these.Given as goal

abbrev pub invariant-loop-number : goal.invariant-loop-number
invariant-loop-number l = AreUnderWay l.front l.frame l.lines.items l.these l.number-index
