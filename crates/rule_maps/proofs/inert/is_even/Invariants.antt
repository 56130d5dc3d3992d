use Rattle.std.proofs.Common.{◌≡◌, ℕ, ◌<◌, slice_index_or}
use Rattle.rule_maps.specs.Inert.{count}
use Rattle.rule_maps.proofs.inert.is_even.Given as goal

abbrev pub invariant-loop-pair : goal.invariant-loop-pair
invariant-loop-pair l = (k : ℕ) (d : ℕ × ℕ) → k < l.pair-index → count l.pairs (slice_index_or l.pairs k d).0 (slice_index_or l.pairs k d).1 ≡ count l.pairs (slice_index_or l.pairs k d).1 (slice_index_or l.pairs k d).0
