use Rattle.std.proofs.Common.{◌≡◌, ◌+◌, ◌≤◌, drop}
use Rattle.mesh_check.specs.Balance.{side_count}
use Rattle.mesh_check.proofs.sides.count.Given as goal

abbrev pub invariant-loop-other : goal.invariant-loop-other
invariant-loop-other l = (l.count + side_count l.side (drop l.other-index l.sides) ≡ side_count l.side l.sides) × (l.count ≤ l.other-index)
