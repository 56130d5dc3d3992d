use Rattle.std.proofs.Common.{◌≡◌, map, take}
use Rattle.rule_maps.specs.Reach.{in_range}
use Rattle.rule_maps.proofs.reach.leeways_in_range.Given as goal

abbrev pub invariant-loop-point : goal.invariant-loop-point
invariant-loop-point l = l.all.items ≡ map in_range (take l.point-index l.points)
