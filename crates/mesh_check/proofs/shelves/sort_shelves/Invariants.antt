use Rattle.std.proofs.Common.{◌≡◌, length}
use Rattle.std.specs.List.Sorted.{IsPermutation}
use Rattle.mesh_check.proofs.shelves.sort_shelves.Given as goal

abbrev pub invariant-loop-end : goal.invariant-loop-end
invariant-loop-end l = IsPermutation l.initial.keys l.keys × (length l.keys ≡ length l.initial.keys)
