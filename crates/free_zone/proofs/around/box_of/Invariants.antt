use Rattle.std.proofs.Common.{take}
use Rattle.state_law.specs.Saved.{AreInBox}
use Rattle.free_zone.proofs.around.box_of.Given as goal

abbrev pub invariant-loop-corner : goal.invariant-loop-corner
invariant-loop-corner l = AreInBox l.bounds.lo l.bounds.hi (take l.corner-index l.corners)
