use Rattle.std.proofs.Common.{◌≡◌, ◌+◌, ◌≤◌, take}
use Rattle.front_chain.specs.Front.{numbered_from}
use Rattle.front_chain.proofs.opening.join_lines.Given as goal

abbrev pub invariant-loop-from : goal.invariant-loop-from
invariant-loop-from l = (l.chain.lines ≡ numbered_from 1 (take l.from-index l.lines)) × (l.chain.next ≡ 1 + l.from-index) × (l.chain.points ≡ l.initial.chain.points) × (l.chain.waiting ≡ l.initial.chain.waiting)
    × (l.initial.chain.spare_lines ≤ l.chain.spare_lines + l.from-index)
