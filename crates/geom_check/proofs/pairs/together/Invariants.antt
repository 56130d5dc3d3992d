use Rattle.std.proofs.Common.{ℕ, ◌<◌}
use Rattle.geom_check.specs.Accepted.{AreTogether}
use Rattle.geom_check.proofs.pairs.together.Given as goal

abbrev pub invariant-loop-i : goal.invariant-loop-i
invariant-loop-i l = (k m : ℕ) → k < l.i → ¬ AreTogether l.points k m
