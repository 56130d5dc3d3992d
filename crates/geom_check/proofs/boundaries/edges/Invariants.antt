use Rattle.std.proofs.Common.{◌≡◌, take}
use Rattle.geom_check.specs.Boundary.{edges_of}
use Rattle.geom_check.proofs.boundaries.edges.Given as goal

abbrev pub invariant-loop-segment : goal.invariant-loop-segment
invariant-loop-segment l = l.edges.items ≡ edges_of l.points (take l.segment-index l.segments)
