use Rattle.std.proofs.Common.{◌≡◌, ℕ, ◌+◌, ◌*◌, length}
use Rattle.mesh_check.specs.Keys.{times}
use Rattle.mesh_check.proofs.keys.are_paired.Given as goal

-- what is walked holds each even number as often as the next one, and no 1
abbrev pub invariant-loop-left : goal.invariant-loop-left
invariant-loop-left l = ((n : ℕ) → times (2 * n) l.keys + times (2 * n + 1) l.left ≡ times (2 * n + 1) l.keys + times (2 * n) l.left) × (times 1 l.keys ≡ times 1 l.left)

abbrev pub decreases-loop-left : goal.decreases-loop-left
decreases-loop-left l = length l.left
