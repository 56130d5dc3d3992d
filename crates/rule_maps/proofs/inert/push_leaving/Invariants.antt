use Rattle.std.proofs.Common.{◌≡◌, ◌++◌, take}
use Rattle.rule_maps.specs.Inert.{turned_leaving}
use Rattle.rule_maps.proofs.inert.push_leaving.Given as goal

abbrev pub invariant-loop-line : goal.invariant-loop-line
invariant-loop-line l = l.pairs.items ≡ l.initial.pairs.items ++ turned_leaving (take l.line-index l.rule.lines)
