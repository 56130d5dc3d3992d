use Rattle.std.proofs.Common.{◌≡◌, map, take}
use Rattle.sample.specs.Plans.{rule_of}
use Rattle.sample.proofs.twelve.rules_of.Given as goal

abbrev pub invariant-loop-plan : goal.invariant-loop-plan
invariant-loop-plan l = l.rules.items ≡ map rule_of (take l.plan-index l.plans)
