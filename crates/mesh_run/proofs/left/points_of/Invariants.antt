use Rattle.std.proofs.Common.{◌≡◌, take}
use Rattle.mesh_run.proofs.left.points_of.Given as goal

abbrev pub invariant-loop-index : goal.invariant-loop-index
invariant-loop-index l = l.points.items ≡ take l.index l.front.points
