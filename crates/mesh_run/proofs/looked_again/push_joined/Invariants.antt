use Rattle.std.proofs.Common.{ℕ, ◌≤◌, ◌<◌}
use Rattle.std.specs.List.{Contains}
use Rattle.mesh_run.specs.Kept.{AreEndsFresh}
use Rattle.mesh_run.proofs.looked_again.push_joined.Given as goal

abbrev pub invariant-loop-number : goal.invariant-loop-number
invariant-loop-number l = (line : ℕ × ℕ × ℕ) → Contains l.front.lines line → l.change.first ≤ line.0 → line.0 < l.number → AreEndsFresh l.change.points l.fresh.items (line.1, line.2)
