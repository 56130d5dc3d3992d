use Rattle.std.proofs.Common.{ℕ, ◌<◌, slice_index_or}
use Rattle.geom_check.specs.declared.kinds.Segment.{Segment}
use Rattle.geom_check.specs.Accepted.{HasDifferentDomains}
use Rattle.geom_check.proofs.boundaries.same_sides.Given as goal

abbrev pub invariant-loop-i : goal.invariant-loop-i
invariant-loop-i l = (k : ℕ) (d : Segment) → k < l.i → HasDifferentDomains (slice_index_or l.segments k d)
