use Rattle.std.proofs.Common.{ℤ, pos, All}
use lib.IntN.{◌-ℤ◌}
use lib.Signed.{◌<ℤ◌, ◌≤ℤ◌}
use Rattle.geom_check.specs.Shift.{FitsRow}
use Rattle.geom_check.proofs.placing.finest.Given as goal
use Rattle.geom_check.specs.declared.limits.TheConstants.{FINEST}

abbrev pub invariant-loop-down : goal.invariant-loop-down
invariant-loop-down l = (d : ℤ) → (FINEST -ℤ pos l.down) <ℤ d → d ≤ℤ FINEST → ¬ (All (FitsRow d) l.rows)
