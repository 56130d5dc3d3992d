use Rattle.rule_match.specs.Passed.{AreShort}
use Rattle.rule_match.proofs.refused.are_short.Given as goal

abbrev pub invariant-loop-position : goal.invariant-loop-position
invariant-loop-position l = AreShort l.class l.rules l.position
