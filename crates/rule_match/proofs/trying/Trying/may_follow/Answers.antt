use mathlib.Core.Path.{sym, ◌∙◌}
use mathlib.Core.Logic.{inl, inr}
use Rattle.rule_match.specs.Trying.{ties}
use Rattle.rule_match.proofs.Prefixes.{follows, cannot_follow, not_false}
use Rattle.rule_match.proofs.trying.Trying.may_follow.Goals as goal

pub returns-then-not-contains-clause-may : goal.returns-then-not-contains-clause-may
returns-then-not-contains-clause-may c = λ h. follows (ties c.args.self.now) c.args.chosen.now c.args.p c.requires.fits (sym c.contains.ensures.value ∙ c.if-not-contains.true) (sym c.tests_hold.ensures ∙ h)

pub returns-then-not-contains-clause-may_not : goal.returns-then-not-contains-clause-may_not
returns-then-not-contains-clause-may_not c = λ h rest. cannot_follow (ties c.args.self.now) c.args.chosen.now c.args.p rest (inr (sym c.tests_hold.ensures ∙ h))

pub returns-else-not-contains-clause-may_not : goal.returns-else-not-contains-clause-may_not
returns-else-not-contains-clause-may_not c = λ h rest. cannot_follow (ties c.args.self.now) c.args.chosen.now c.args.p rest (inl (sym c.contains.ensures.value ∙ not_false c.contains.result h))
