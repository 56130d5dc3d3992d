use Rattle.std.proofs.Common.{◌≡◌, map, take}
use Rattle.sample.specs.Plans.{place_of}
use Rattle.sample.proofs.twelve.places.Given as goal

abbrev pub invariant-loop-corner : goal.invariant-loop-corner
invariant-loop-corner l = l.places.items ≡ map place_of (take l.corner-index l.corners)
