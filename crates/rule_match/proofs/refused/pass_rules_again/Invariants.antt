use Rattle.rule_match.specs.Passed.{IsAgainSoFar}
use Rattle.rule_match.specs.Walk.{BeginsWith}
use Rattle.rule_match.proofs.refused.pass_rules_again.Given as goal

abbrev pub invariant-loop-position : goal.invariant-loop-position
invariant-loop-position l = IsAgainSoFar l.base l.rules l.position l.fresh l.progress × BeginsWith l.progress.notes.items l.initial.progress.notes.items
