use Rattle.std.proofs.Common.{◌≡◌, ℕ, ◌<◌, ◌+◌, map, length}
use Rattle.mesh_check.specs.Balance.{element_sides}
use Rattle.mesh_check.specs.Keys.{key_of, times}
use Rattle.mesh_check.proofs.shelves.put_elements.Given as goal

-- what is put and what is left make up what was there and all
abbrev pub invariant-loop-left : goal.invariant-loop-left
invariant-loop-left l = (k : ℕ) → 0 < k → times k l.shelves.keys.items + times k (map key_of (element_sides l.left))
    ≡ times k (map key_of (element_sides l.elements)) + times k l.initial.shelves.keys.items

abbrev pub decreases-loop-left : goal.decreases-loop-left
decreases-loop-left l = length l.left
