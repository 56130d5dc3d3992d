use Rattle.std.proofs.Common.{◌≤◌, ◌<◌, ◌-◌, length, slice_index_or}
use Rattle.geom_check.specs.Walk.{riser_at}
use Rattle.geom_check.specs.Doubt.{IsBefore}
use Rattle.geom_check.proofs.walk.place_for.Given as goal

-- what is left of where the search goes on is before the end, what is right of it isn't
abbrev pub invariant-loop-from : goal.invariant-loop-from
invariant-loop-from l = (l.from ≤ l.to) × (l.to ≤ length l.order)
    × (1 ≤ l.from → IsBefore (riser_at l.risers (slice_index_or l.order (l.from - 1) 0)) l.at l.is_upper)
    × (l.to < length l.order → ¬ (IsBefore (riser_at l.risers (slice_index_or l.order l.to 0)) l.at l.is_upper))

abbrev pub decreases-loop-from : goal.decreases-loop-from
decreases-loop-from l = l.to - l.from
