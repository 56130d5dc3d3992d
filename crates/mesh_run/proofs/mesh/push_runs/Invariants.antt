use Rattle.std.proofs.Common.{◌≡◌, ◌++◌, take, drop, length}
use Rattle.std.specs.List.{flat_map}
use Rattle.mesh_run.specs.Mesh.{elements_from, new_points}
use Rattle.mesh_run.proofs.mesh.push_runs.Given as goal

abbrev pub invariant-loop-run : goal.invariant-loop-run
invariant-loop-run l = record {
  points : l.points.items ≡ l.initial.points.items ++ flat_map new_points (take l.run-index l.runs);
  elements : l.elements.items ++ elements_from l.mesh (length l.points.items) (drop l.run-index l.runs) ≡ l.initial.elements.items ++ elements_from l.mesh (length l.initial.points.items) l.runs;
}
