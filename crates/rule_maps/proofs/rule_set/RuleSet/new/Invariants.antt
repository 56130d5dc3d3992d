use Rattle.std.proofs.Common.{◌≡◌, take}
use Rattle.rule_maps.proofs.rule_set.RuleSet.new.Given as goal

abbrev pub invariant-loop-rule : goal.invariant-loop-rule
invariant-loop-rule l = l.compiled.items ≡ take l.rule-index l.rules
