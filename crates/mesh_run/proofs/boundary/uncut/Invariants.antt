use Rattle.std.proofs.Common.{◌≡◌, ◌+◌, ◌++◌, drop}
use Rattle.mesh_run.specs.Boundary.{whole_pieces, whole_pieces_from}
use Rattle.mesh_run.proofs.boundary.uncut.Given as goal

abbrev pub invariant-loop-index : goal.invariant-loop-index
invariant-loop-index l = l.pieces.items ++ whole_pieces_from (l.index + 1) l.points (drop l.index l.segments) ≡ whole_pieces l.points l.segments
