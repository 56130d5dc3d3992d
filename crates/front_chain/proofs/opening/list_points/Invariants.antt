use Rattle.std.proofs.Common.{◌≡◌, ◌+◌, ◌≤◌, take}
use Rattle.front_chain.specs.Front.{numbers_to}
use Rattle.front_chain.proofs.opening.list_points.Given as goal

abbrev pub invariant-loop-p : goal.invariant-loop-p
invariant-loop-p l = (l.chain.points ≡ take l.p-index l.points) × (l.chain.waiting ≡ numbers_to l.p-index) × (l.chain.lines ≡ l.initial.chain.lines) × (l.chain.next ≡ l.initial.chain.next)
    × (l.chain.spare_lines ≡ l.initial.chain.spare_lines) × (l.initial.chain.spare_points ≤ l.chain.spare_points + l.p-index)
