use Rattle.std.proofs.Common.{◌≡◌, ◌<◌, Contains, slice_index_or, ℕ}
use Rattle.rule_match.proofs.fresh.fresh_of.Given as goal

abbrev pub invariant-loop-p : goal.invariant-loop-p
invariant-loop-p l = record {
  all : (p k : ℕ) → k < l.p-index → slice_index_or l.fresh k p ≡ p → Contains l.region p → Contains l.common.items p;
  only : (p : ℕ) → Contains l.common.items p → Contains l.fresh p;
}
