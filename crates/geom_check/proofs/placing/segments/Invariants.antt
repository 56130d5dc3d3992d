use Rattle.std.proofs.Common.{◌≡◌, ◌+◌, ◌++◌, drop}
use Rattle.geom_check.specs.Placed.{segments_from}
use Rattle.geom_check.proofs.placing.segments.Given as goal

abbrev pub invariant-loop-i : goal.invariant-loop-i
invariant-loop-i l = l.segments.items ++ segments_from l.scale.shift l.points (l.i + 1) (drop l.i l.rows) ≡ segments_from l.scale.shift l.points 1 l.rows
