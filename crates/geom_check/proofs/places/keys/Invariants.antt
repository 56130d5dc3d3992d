use Rattle.std.proofs.Common.{◌≡◌, map, take}
use Rattle.geom_check.specs.Places.{key_of}
use Rattle.geom_check.proofs.places.keys.Given as goal

abbrev pub invariant-loop-point : goal.invariant-loop-point
invariant-loop-point l = l.keys.items ≡ map key_of (take l.point-index l.points)
