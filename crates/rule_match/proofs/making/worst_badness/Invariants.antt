use Rattle.std.proofs.Common.{◌≡◌, map, take}
use Rattle.state_law.specs.State.{corners_of}
use Rattle.rule_match.specs.Least.{worst}
use Rattle.rule_match.proofs.making.worst_badness.Given as goal

abbrev pub invariant-loop-element : goal.invariant-loop-element
invariant-loop-element l = l.found ≡ worst (record { squares = 0; area = 1 }) (map (corners_of l.places) (take l.element-index l.elements))
