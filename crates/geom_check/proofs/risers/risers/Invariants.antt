use Rattle.std.proofs.Common.{◌≡◌, ◌++◌, drop}
use Rattle.geom_check.specs.Risers.{risers_of}
use Rattle.geom_check.proofs.risers.risers.Given as goal

abbrev pub invariant-loop-segment : goal.invariant-loop-segment
invariant-loop-segment l = l.risers.items ++ risers_of l.points (drop l.segment-index l.segments) ≡ risers_of l.points l.segments
