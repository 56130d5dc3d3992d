use Rattle.std.proofs.Common.{◌≡◌, map, take}
use Rattle.mesh_run.specs.Mesh.{mesh_number}
use Rattle.mesh_run.proofs.mesh.mesh_corners.Given as goal

abbrev pub invariant-loop-corner : goal.invariant-loop-corner
invariant-loop-corner l = l.numbers.items ≡ map (mesh_number l.mesh l.before l.run) (take l.corner-index l.corners)
