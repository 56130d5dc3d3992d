use Rattle.std.proofs.Common.{ℕ, ◌<◌, Some}
use Rattle.geom_check.specs.Risers.{is_chosen}
use Rattle.geom_check.specs.RiserOrder.{IsSoundAll}
use Rattle.geom_check.proofs.windings.first_side.Given as goal

abbrev pub invariant-loop-domain : goal.invariant-loop-domain
invariant-loop-domain l = (d : ℕ) → 0 < d → d < l.domain → IsSoundAll (is_chosen (Some d)) l.risers
