use Rattle.std.proofs.Common.{◌≡◌, take}
use Rattle.mesh_run.specs.Boundary.{piece_boundary}
use Rattle.mesh_run.proofs.boundary.boundary_of.Given as goal

abbrev pub invariant-loop-piece : goal.invariant-loop-piece
invariant-loop-piece l = l.edges.items ≡ piece_boundary l.domain l.segments (take l.piece-index l.pieces)
