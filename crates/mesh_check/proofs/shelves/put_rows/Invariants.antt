use Rattle.std.proofs.Common.{◌≡◌, ℕ, ◌<◌, ◌+◌, length}
use Rattle.mesh_check.specs.Balance.{row_sides}
use Rattle.mesh_check.specs.Keys.{times}
use Rattle.mesh_check.proofs.Shelved.{turns}
use Rattle.mesh_check.proofs.shelves.put_rows.Given as goal

-- what is put and what is left make up what was there and all
abbrev pub invariant-loop-left : goal.invariant-loop-left
invariant-loop-left l = (k : ℕ) → 0 < k → times k l.shelves.keys.items + times k (turns (row_sides l.left))
    ≡ times k (turns (row_sides l.rows)) + times k l.initial.shelves.keys.items

abbrev pub decreases-loop-left : goal.decreases-loop-left
decreases-loop-left l = length l.left
