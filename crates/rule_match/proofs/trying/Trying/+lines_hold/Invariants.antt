use Rattle.std.proofs.Common.{length}
use Rattle.rule_match.proofs.trying.Trying.+lines_hold.Given as goal

abbrev pub decreases-lines_hold : goal.decreases-lines_hold
decreases-lines_hold l = length l.lines.now
