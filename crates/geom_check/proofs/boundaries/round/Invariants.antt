use Rattle.std.proofs.Common.{◌≡◌, ◌++◌, drop}
use Rattle.geom_check.specs.Boundary.{boundary}
use Rattle.geom_check.proofs.boundaries.round.Given as goal

abbrev pub invariant-loop-segment : goal.invariant-loop-segment
invariant-loop-segment l = l.edges.items ++ boundary l.points l.domain (drop l.segment-index l.segments) ≡ boundary l.points l.domain l.segments
