use Rattle.std.proofs.Common.{length}
use Rattle.rule_match.proofs.trying.Trying.+turns_hold.Given as goal

abbrev pub decreases-turns_hold : goal.decreases-turns_hold
decreases-turns_hold l = length l.turns.now
