use Rattle.std.proofs.Common.{◌≡◌, map, take}
use Rattle.rule_maps.specs.Sums.{constants_of}
use Rattle.rule_maps.proofs.sums.all_constants.Given as goal

abbrev pub invariant-loop-place : goal.invariant-loop-place
invariant-loop-place l = l.all.items ≡ map (constants_of l.points) (take l.place-index l.places)
