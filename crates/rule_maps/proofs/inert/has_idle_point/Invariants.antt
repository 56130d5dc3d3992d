use Rattle.std.proofs.Common.{ℕ, ◌+◌, ◌<◌, length, Contains}
use Rattle.std.specs.List.{AllByRecursion}
use Rattle.rule_maps.proofs.inert.has_idle_point.Given as goal

abbrev pub invariant-loop-point : goal.invariant-loop-point
invariant-loop-point l = (k : ℕ) → k < l.point → ¬ AllByRecursion (λ corners. ¬ Contains corners (length l.rule.points + 1 + k)) l.rule.elements
