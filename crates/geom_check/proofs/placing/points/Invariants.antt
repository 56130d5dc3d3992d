use Rattle.std.proofs.Common.{◌≡◌, take}
use Rattle.geom_check.specs.Placed.{points_of}
use Rattle.geom_check.proofs.placing.points.Given as goal

abbrev pub invariant-loop-row : goal.invariant-loop-row
invariant-loop-row l = l.points.items ≡ points_of l.scale.shift (take l.row-index l.rows)
