use Rattle.std.proofs.Common.{◌≡◌, ◌++◌, drop}
use Rattle.rule_maps.specs.Inert.{sides, sides_from}
use Rattle.rule_maps.proofs.inert.push_sides.Given as goal

abbrev pub invariant-loop-to : goal.invariant-loop-to
invariant-loop-to l = l.pairs.items ++ sides_from l.first l.from (drop l.to-index l.rest) ≡ l.initial.pairs.items ++ sides l.corners
