use Rattle.std.proofs.Common.{◌≡◌, ◌≤◌, length, ◌⊎◌}
use Rattle.mesh_check.specs.Least.{IsLeast}
use Rattle.mesh_check.proofs.Twins.{AreTwins}
use Rattle.mesh_check.proofs.spots.least_twins.Given as goal

abbrev pub invariant-loop-i : goal.invariant-loop-i
invariant-loop-i l = IsLeast (AreTwins l.spots l.i) l.least × ((l.i ≡ 1) ⊎ (l.i ≤ length l.spots))
