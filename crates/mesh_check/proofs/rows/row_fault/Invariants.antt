use Rattle.std.proofs.Common.{take, IfSome}
use Rattle.grid_geom.specs.Bounds.{IsOnGrid}
use Rattle.mesh_check.specs.Walked.{places_of}
use Rattle.mesh_check.specs.Stands.{IsStandAfter}
use Rattle.mesh_check.proofs.rows.row_fault.Given as goal

abbrev pub invariant-loop-i : goal.invariant-loop-i
invariant-loop-i l = IsStandAfter (places_of l.g l.m) l.g.segments (take l.i l.m.edges) l.stand × IfSome l.stand (λ s. IsOnGrid s.at)
