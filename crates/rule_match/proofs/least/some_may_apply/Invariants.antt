use Rattle.rule_match.specs.Passed.{NoneMayApply}
use Rattle.rule_match.proofs.least.some_may_apply.Given as goal

abbrev pub invariant-loop-position : goal.invariant-loop-position
invariant-loop-position l = NoneMayApply l.class l.rules l.position
