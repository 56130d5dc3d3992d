use Rattle.std.proofs.Common.{ℕ, ◌<◌}
use Rattle.geom_check.specs.Accepted.{AreTogether}
use Rattle.geom_check.proofs.pairs.twin.Given as goal

abbrev pub invariant-loop-j : goal.invariant-loop-j
invariant-loop-j l = (m : ℕ) → m < l.j → ¬ AreTogether l.points l.i m
