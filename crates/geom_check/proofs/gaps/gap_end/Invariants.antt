use Rattle.geom_check.specs.Gaps.{IsGapEnd}
use Rattle.geom_check.proofs.gaps.gap_end.Given as goal

abbrev pub invariant-loop-riser : goal.invariant-loop-riser
invariant-loop-riser l = IsGapEnd l.strip.low l.strip.high l.risers l.riser-index l.left l.nearest
