use Rattle.std.proofs.Common.{ℕ, ◌<◌}
use Rattle.geom_check.specs.Accepted.{AreTangled}
use Rattle.geom_check.proofs.pairs.tangled_with.Given as goal

abbrev pub invariant-loop-j : goal.invariant-loop-j
invariant-loop-j l = (m : ℕ) → m < l.j → ¬ AreTangled l.edges l.i m
