use Rattle.std.proofs.Common.{◌≡◌, map, take}
use Rattle.mesh_run.specs.Mesh.{edge_row}
use Rattle.mesh_run.proofs.mesh.edge_rows.Given as goal

abbrev pub invariant-loop-piece : goal.invariant-loop-piece
invariant-loop-piece l = l.rows.items ≡ map (edge_row l.mesh l.segments) (take l.piece-index l.pieces)
