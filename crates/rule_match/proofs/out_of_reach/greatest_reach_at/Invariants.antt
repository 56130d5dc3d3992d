use Rattle.std.proofs.Common.{ℕ, ◌≤◌, take}
use Rattle.std.specs.List.{AllByRecursion}
use Rattle.rule_match.specs.Near.{IsCoveredAt, IsCoveredBy}
use Rattle.rule_match.proofs.out_of_reach.greatest_reach_at.Given as goal

abbrev pub invariant-loop-k : goal.invariant-loop-k
invariant-loop-k l = record {
  covers : AllByRecursion (IsCoveredAt l.class l.greatest) (take l.k l.rules);
  no_greater : (m : ℕ) → AllByRecursion (IsCoveredBy m) l.rules → l.greatest ≤ m;
}
