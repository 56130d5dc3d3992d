use Rattle.geom_check.proofs.PlaceKeys.{AreRisingTo}
use Rattle.geom_check.proofs.places.are_different.Given as goal

abbrev pub invariant-loop-i : goal.invariant-loop-i
invariant-loop-i l = AreRisingTo l.i l.keys
