use Rattle.std.proofs.Common.{ℕ, ◌<◌, slice_index_or}
use Rattle.geom_check.specs.declared.kinds.Segment.{Segment}
use Rattle.geom_check.specs.Accepted.{HasTwoEnds}
use Rattle.geom_check.proofs.boundaries.no_length.Given as goal

abbrev pub invariant-loop-i : goal.invariant-loop-i
invariant-loop-i l = (k : ℕ) (d : Segment) → k < l.i → HasTwoEnds (slice_index_or l.segments k d)
