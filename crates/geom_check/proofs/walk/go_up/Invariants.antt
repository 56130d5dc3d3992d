use Rattle.std.proofs.Common.{ℕ, ◌<◌, ◌≤◌, ◌-◌, length, slice_index_or}
use Rattle.geom_check.specs.declared.events.Event.{Event}
use Rattle.geom_check.specs.Walk.{IsWalking, AreSettled}
use Rattle.geom_check.specs.Doubt.{IsReached}
use Rattle.geom_check.proofs.walk.go_up.Given as goal

-- the walk goes on, and what was taken is no higher than the level
abbrev pub invariant-loop-walk : goal.invariant-loop-walk
invariant-loop-walk l = (l.walk.next ≤ length l.events) × ((i : ℕ) (d : Event) → i < l.walk.next → (slice_index_or l.events i d).level ≤ l.level)
    × IsWalking l.risers l.events l.walk.next l.walk.order.items × AreSettled l.risers l.walk.order.items l.walk.changed.items l.walk.last
    × IsReached l.risers l.events l.walk.next l.walk.order.items l.walk.last

abbrev pub decreases-loop-walk : goal.decreases-loop-walk
decreases-loop-walk l = length l.events - l.walk.next
