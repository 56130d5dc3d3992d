use Rattle.std.proofs.Common.{ℕ, ◌≤◌, sym, subst}
use Rattle.rule_match.proofs.Advances.{begins_same}
use Rattle.rule_match.proofs.OverRules.{passed_at, skipped_at}
use Rattle.rule_match.proofs.least.pass_rule.Goals as goal

pub returns-in_ok-try_rule-clause-so_far : goal.returns-in_ok-try_rule-clause-so_far
returns-in_ok-try_rule-clause-so_far c =
    passed_at c.args.base.now c.args.rules.now c.args.number c.get-rule.result.now c.args.progress.now c.try_rule.new.progress c.requires.first c.requires.last c.get-rule.ensures
    c.near-near.ensures.base c.in_ok-try_rule.ensures c.requires.so_far

pub returns-else-may_apply-clause-so_far : goal.returns-else-may_apply-clause-so_far
returns-else-may_apply-clause-so_far c =
    skipped_at c.args.base.now c.args.rules.now c.args.number c.get-rule.result.now c.args.progress.now c.requires.first c.requires.last c.get-rule.ensures
    (λ live quality. c.may_apply.ensures.never c.if-may_apply.false live (subst (λ (n : ℕ). c.get-rule.result.now.quality ≤ n) (sym c.class.ensures) quality)) c.requires.so_far

pub returns-in_ok-try_rule-clause-kept : goal.returns-in_ok-try_rule-clause-kept
returns-in_ok-try_rule-clause-kept c = c.in_ok-try_rule.ensures.advance.noted

pub returns-else-may_apply-clause-kept : goal.returns-else-may_apply-clause-kept
returns-else-may_apply-clause-kept c = begins_same c.args.progress.now.notes.items
