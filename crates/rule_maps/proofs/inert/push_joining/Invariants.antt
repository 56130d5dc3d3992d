use Rattle.std.proofs.Common.{◌≡◌, ◌++◌, take}
use Rattle.rule_maps.proofs.inert.push_joining.Given as goal

abbrev pub invariant-loop-i : goal.invariant-loop-i
invariant-loop-i l = l.pairs.items ≡ l.initial.pairs.items ++ take l.i-index l.rule.new_lines
