use Rattle.geom_check.proofs.Gathering.{IsGathered}
use Rattle.geom_check.proofs.strips.gathered.Given as goal

abbrev pub invariant-loop-riser : goal.invariant-loop-riser
invariant-loop-riser l = IsGathered l.strip.low l.strip.high l.risers l.riser-index l.gathered.items
