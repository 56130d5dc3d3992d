use Rattle.std.proofs.Common.{◌≡◌, ◌++◌, map, take}
use Rattle.mesh_check.specs.Balance.{turned}
use Rattle.mesh_check.proofs.sides.with_turned.Given as goal

abbrev pub invariant-loop-side : goal.invariant-loop-side
invariant-loop-side l = l.sides.items ≡ take l.side-index l.first

abbrev pub invariant-loop-side-2 : goal.invariant-loop-side-2
invariant-loop-side-2 l = l.sides.items ≡ l.first ++ map turned (take l.side-index l.others)
