use Rattle.std.proofs.Common.{ℕ, ◌≤◌, sym, subst}
use Rattle.rule_match.proofs.Advances.{begins_same}
use Rattle.rule_match.proofs.OverRules.{passed_again, skipped_again}
use Rattle.rule_match.proofs.refused.pass_rule_again.Goals as goal

pub returns-in_ok-try_rule_again-clause-so_far : goal.returns-in_ok-try_rule_again-clause-so_far
returns-in_ok-try_rule_again-clause-so_far c = λ fresh at so_far.
    passed_again c.args.base.now c.args.rules.now c.args.number c.get-rule.result.now fresh c.args.positions.now c.args.progress.now c.try_rule_again.new.progress c.requires.first c.requires.last c.get-rule.ensures
    c.near-near.ensures.base
    at c.in_ok-try_rule_again.ensures so_far

pub returns-in_ok-try_rule_again-clause-kept : goal.returns-in_ok-try_rule_again-clause-kept
returns-in_ok-try_rule_again-clause-kept c = c.in_ok-try_rule_again.ensures.advance.noted

pub returns-else-may_apply-clause-so_far : goal.returns-else-may_apply-clause-so_far
returns-else-may_apply-clause-so_far c = λ fresh at so_far.
    skipped_again c.args.base.now c.args.rules.now c.args.number c.get-rule.result.now fresh c.args.progress.now c.requires.first c.requires.last c.get-rule.ensures
    (λ live quality. c.may_apply.ensures.never c.if-may_apply.false live (subst (λ (n : ℕ). c.get-rule.result.now.quality ≤ n) (sym c.class.ensures) quality)) so_far

pub returns-else-may_apply-clause-kept : goal.returns-else-may_apply-clause-kept
returns-else-may_apply-clause-kept c = begins_same c.args.progress.now.notes.items
