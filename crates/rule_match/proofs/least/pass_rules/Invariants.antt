use Rattle.rule_match.specs.Passed.{IsSoFar}
use Rattle.rule_match.specs.Walk.{BeginsWith}
use Rattle.rule_match.proofs.least.pass_rules.Given as goal

abbrev pub invariant-loop-position : goal.invariant-loop-position
invariant-loop-position l = IsSoFar l.base l.rules l.position l.progress × BeginsWith l.progress.notes.items l.initial.progress.notes.items
