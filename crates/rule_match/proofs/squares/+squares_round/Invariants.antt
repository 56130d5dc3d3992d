use Rattle.std.proofs.Common.{length}
use Rattle.rule_match.proofs.squares.+squares_round.Given as goal

abbrev pub decreases-squares_round : goal.decreases-squares_round
decreases-squares_round l = length l.rest.now
