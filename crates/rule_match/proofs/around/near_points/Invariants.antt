use Rattle.std.proofs.Common.{◌≡◌, map, take}
use Rattle.rule_match.specs.Around.{near_of}
use Rattle.rule_match.proofs.around.near_points.Given as goal

abbrev pub invariant-loop-number : goal.invariant-loop-number
invariant-loop-number l = l.near.items ≡ map (near_of l.front.points l.frame) (take l.number-index l.numbers)
