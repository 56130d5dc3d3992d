use Rattle.std.proofs.Common.{◌≡◌, ◌∙◌, false, List, subst, sym}
use Rattle.front_chain.specs.Front.{state_of}
use Rattle.rule_match.specs.Refused.{IsRefusedAgain}
use Rattle.rule_match.specs.declared.around.Scope.{Scope}
use Rattle.rule_match.specs.Passed.{HoldsFew}
use Rattle.rule_match.specs.Walk.{BeginsWith}
use Rattle.rule_match.specs.declared.progress.Note.{Note}
use Rattle.rule_match.proofs.Advances.{begins_same}
use Rattle.rule_match.proofs.OverRules.{again_after, few_enough, none_again, none_if_not, one_if_some, refused_again}
use Rattle.rule_match.proofs.refused.again.Goals as goal

pub returns-clause-one : goal.returns-clause-one
returns-clause-one c = λ yes. one_if_some c.args.sizes.now c.args.front.now c.args.rules.now c.args.line c.args.class c.args.fresh.now c.in_ok-base.base c.pass_rules_again.new.progress.best c.in_ok-base.ensures.base c.in_ok-pass_rules_again.ensures.so_far.found (sym c.is_some.ensures ∙ yes)

pub returns-clause-noted : goal.returns-clause-noted
returns-clause-noted c = λ no. subst (IsRefusedAgain c.args.sizes.now (state_of c.args.front.now) c.args.rules.now c.args.line c.args.class c.args.fresh.now) (sym c.in_ok-append.ensures.items)
    (again_after c.args.sizes.now (state_of c.args.front.now) c.args.rules.now c.args.line c.args.class c.args.fresh.now c.args.notes.now.items c.pass_rules_again.new.progress.notes.items
    (refused_again c.args.sizes.now c.args.front.now c.args.rules.now c.args.line c.args.class c.args.fresh.now c.in_ok-base.base c.pass_rules_again.new.progress c.in_ok-base.ensures.base
    (few_enough c.args.sizes.now c.args.front.now c.args.rules.now c.args.line c.args.class c.unwrap-ends.result c.args.fresh.now c.in_ok-base.base.scope c.points-points.ensures.holds.rising (sym c.line.ensures ∙ c.unwrap-ends.ensures)
    (subst (λ (s : Scope). s.whole ≡ false → HoldsFew c.args.class c.args.rules.now c.unwrap-ends.result c.args.fresh.now s.these.items) (sym c.in_ok-base.ensures.scope) c.in_ok-scope.ensures)) c.in_ok-base.ensures.noting
    (none_if_not c.pass_rules_again.new.progress.best (sym c.is_some.ensures ∙ no)) c.in_ok-pass_rules_again.ensures.so_far))

pub returns-clause-none : goal.returns-clause-none
returns-clause-none c = λ no. none_again c.args.sizes.now c.args.front.now c.args.rules.now c.args.line c.args.class c.args.fresh.now c.append.new.self.items c.points-points.ensures.holds.region (returns-clause-noted c no)

pub returns-in_err-append-clause-kept : goal.returns-in_err-append-clause-kept
returns-in_err-append-clause-kept c = subst (λ (ns : List Note). BeginsWith ns c.args.notes.now.items) (sym c.in_err-append.ensures.items) (begins_same c.args.notes.now.items)
