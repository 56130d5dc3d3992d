use Rattle.std.proofs.Common.{◌≡◌, map, take}
use Rattle.rule_match.specs.Candidate.{nth}
use Rattle.rule_match.proofs.making.numbered.Given as goal

abbrev pub invariant-loop-n : goal.invariant-loop-n
invariant-loop-n l = l.corners.items ≡ map (nth l.numbers) (take l.n-index l.element)
