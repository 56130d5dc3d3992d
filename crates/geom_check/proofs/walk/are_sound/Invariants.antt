use Rattle.std.proofs.Common.{ℕ, ◌<◌, ◌≤◌, ◌-◌, length, slice_index, slice_index_or}
use Rattle.geom_check.specs.declared.events.Event.{Event}
use Rattle.geom_check.specs.RiserOrder.{height_of}
use Rattle.geom_check.specs.Walk.{IsWalking, AreNeighbours, IsSoundFor}
use Rattle.geom_check.specs.Doubt.{IsReached}
use Rattle.geom_check.proofs.walk.are_sound.Given as goal

-- the walk goes on, its neighbours agree, and the strips below are sound
abbrev pub invariant-loop-i : goal.invariant-loop-i
invariant-loop-i l = (l.walk.next ≤ length l.events.items) × ((k : ℕ) (d : Event) → k < l.walk.next → l.i < length l.levels → (slice_index_or l.events.items k d).level ≤ slice_index l.levels (l.i - 1))
    × IsWalking l.risers l.events.items l.walk.next l.walk.order.items × AreNeighbours l.risers l.walk.order.items
    × ((k : ℕ) → 1 ≤ k → k < l.i → IsSoundFor l.risers (height_of l.levels (k - 1)) (height_of l.levels k))
    × IsReached l.risers l.events.items l.walk.next l.walk.order.items l.walk.last
