use Rattle.std.proofs.Common.{ℕ, ◌≤◌, ◌<◌, ◌-◌}
use Rattle.geom_check.specs.Risers.{is_chosen}
use Rattle.geom_check.specs.RiserOrder.{IsSound, height_of}
use Rattle.geom_check.proofs.strips.lowest_fault.Given as goal

abbrev pub invariant-loop-i : goal.invariant-loop-i
invariant-loop-i l = (k : ℕ) → 1 ≤ k → k < l.i → IsSound (height_of l.levels (k - 1)) (height_of l.levels k) (is_chosen l.chosen) l.risers
