use Rattle.std.proofs.Common.{◌≡◌, map, take}
use Rattle.rule_match.specs.Candidate.{nth}
use Rattle.rule_match.proofs.making.numbered_elements.Given as goal

abbrev pub invariant-loop-element : goal.invariant-loop-element
invariant-loop-element l = l.all.items ≡ map (map (nth l.numbers)) (take l.element-index l.elements)
