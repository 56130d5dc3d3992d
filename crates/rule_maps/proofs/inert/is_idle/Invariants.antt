use Rattle.std.proofs.Common.{ℕ, ◌<◌, List, slice_index_or, Contains}
use Rattle.rule_maps.proofs.inert.is_idle.Given as goal

abbrev pub invariant-loop-element : goal.invariant-loop-element
invariant-loop-element l = (k : ℕ) (d : List ℕ) → k < l.element-index → ¬ Contains (slice_index_or l.rule.elements k d) l.point
