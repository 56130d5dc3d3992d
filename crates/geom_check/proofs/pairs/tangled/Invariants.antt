use Rattle.std.proofs.Common.{ℕ, ◌<◌}
use Rattle.geom_check.specs.Accepted.{AreTangled}
use Rattle.geom_check.proofs.pairs.tangled.Given as goal

abbrev pub invariant-loop-i : goal.invariant-loop-i
invariant-loop-i l = (k m : ℕ) → k < l.i → ¬ AreTangled l.edges k m
