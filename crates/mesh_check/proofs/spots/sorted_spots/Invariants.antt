use Rattle.mesh_check.proofs.SpotOrder.{AreFirst}
use Rattle.mesh_check.proofs.spots.sorted_spots.Given as goal

abbrev pub invariant-loop-index : goal.invariant-loop-index
invariant-loop-index l = AreFirst l.points l.index l.spots.items
