use Rattle.std.proofs.Common.{ℕ, ◌<◌, length}
use Rattle.geom_check.specs.Spans.{IsFreeOf}
use Rattle.geom_check.proofs.spans.are_free.Given as goal

abbrev pub invariant-loop-i : goal.invariant-loop-i
invariant-loop-i l = (k : ℕ) → k < l.i → IsFreeOf l.spans k (length l.spans)
