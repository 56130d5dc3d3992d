use Rattle.std.proofs.Common.{◌<◌, ℕ, Contains}
use Rattle.rule_match.specs.Trying.{near_at}
use Rattle.rule_match.proofs.refused.fresh_positions.Given as goal

abbrev pub invariant-loop-k : goal.invariant-loop-k
invariant-loop-k l = record {
  all : (j : ℕ) → j < l.k → Contains l.fresh (near_at l.near j).number → Contains l.positions.items j;
  only : (j : ℕ) → Contains l.positions.items j → Contains l.fresh (near_at l.near j).number;
}
