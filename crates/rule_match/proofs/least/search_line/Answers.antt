use Rattle.std.proofs.Common.{length, subst, ap, ◌∙◌}
use Rattle.rule_match.specs.declared.around.Scope.{Scope}
use Rattle.rule_match.specs.Passed.{IsLeastSoFar}
use Rattle.rule_match.proofs.Advances.{begins_same}
use Rattle.rule_match.proofs.OverRules.{none_found, best_of, refused_found, refused_idle}
use Rattle.rule_match.proofs.least.search_line.Goals as goal

pub returns-then-not-some_may_apply-clause-kept : goal.returns-then-not-some_may_apply-clause-kept
returns-then-not-some_may_apply-clause-kept c = begins_same c.args.progress.now.notes.items

pub returns-then-not-some_may_apply-clause-noted : goal.returns-then-not-some_may_apply-clause-noted
returns-then-not-some_may_apply-clause-noted c = λ noting. refused_idle c.args.sizes.now _ c.args.rules.now c.args.line c.args.class c.args.progress.now.notes.items (c.some_may_apply.ensures.none_may c.if-not-some_may_apply.true)

pub returns-in-None-clause-none : goal.returns-in-None-clause-none
returns-in-None-clause-none c =
    none_found c.args.sizes.now c.args.front.now c.args.rules.now c.args.line c.args.class c.in_ok-base.base c.in_ok-base.ensures.base (ap (λ (s : Scope). s.whole) c.in_ok-base.ensures.scope)
    (subst (IsLeastSoFar c.in_ok-base.base c.args.rules.now (length c.args.rules.now)) c.in-None.is c.in_ok-pass_rules.ensures.so_far.least)

pub returns-in-None-clause-noted : goal.returns-in-None-clause-noted
returns-in-None-clause-noted c = λ noting.
    refused_found c.args.sizes.now c.args.front.now c.args.rules.now c.args.line c.args.class c.in_ok-base.base c.pass_rules.new.progress c.in_ok-base.ensures.base (ap (λ (s : Scope). s.whole) c.in_ok-base.ensures.scope) (c.in_ok-base.ensures.noting ∙ noting) c.in-None.is c.in_ok-pass_rules.ensures.so_far

pub returns-clause-least : goal.returns-clause-least
returns-clause-least c =
    best_of c.args.sizes.now c.args.front.now c.args.rules.now c.args.line c.args.class c.in_ok-base.base c.in-Some.found c.in_ok-application_of-in-Some.field-0 c.in_ok-base.ensures.base (ap (λ (s : Scope). s.whole) c.in_ok-base.ensures.scope)
    (subst (IsLeastSoFar c.in_ok-base.base c.args.rules.now (length c.args.rules.now)) c.in-Some.is c.in_ok-pass_rules.ensures.so_far.least) c.in_ok-application_of-in-Some.ensures
