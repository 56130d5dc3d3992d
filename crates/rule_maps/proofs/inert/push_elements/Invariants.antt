use Rattle.std.proofs.Common.{◌≡◌, ◌++◌, take, flat_map}
use Rattle.rule_maps.specs.Inert.{sides}
use Rattle.rule_maps.proofs.inert.push_elements.Given as goal

abbrev pub invariant-loop-element : goal.invariant-loop-element
invariant-loop-element l = l.pairs.items ≡ l.initial.pairs.items ++ flat_map sides (take l.element-index l.rule.elements)
