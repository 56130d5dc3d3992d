use Rattle.std.proofs.Common.{arith, ℕ, ◌≡◌, ◌+◌, ◌-◌, subst, sym}
use Rattle.rule_match.specs.Passed.{AreFreshAt, IsAgainSoFar}
use Rattle.rule_match.proofs.Advances.{begins_chain, begins_same}
use Rattle.rule_match.proofs.OverRules.{again_none}
use Rattle.rule_match.proofs.refused.pass_rules_again.Goals as goal

pub loop-position-init : goal.loop-position-init
loop-position-init c = (again_none c.args.base.now c.args.rules.now c.args.fresh.now c.args.progress.now c.requires, begins_same c.args.progress.now.notes.items)

pub loop-position-preserved : goal.loop-position-preserved
loop-position-preserved c =
    let same : c.loop-position.position ≡ c.loop-position.position + 1 - 1 = omega arith in (
      c.in_ok-pass_rule_again.ensures.so_far c.args.fresh.now (subst (AreFreshAt c.args.base.now.near c.args.fresh.now) (sym c.deref.ensures.value) c.in_ok-positions.ensures)
          (subst (λ (m : ℕ). IsAgainSoFar c.args.base.now c.args.rules.now m c.args.fresh.now c.loop-position.progress) same c.loop-position.invariant.0),
      begins_chain c.pass_rule_again.new.progress.notes.items c.loop-position.progress.notes.items c.args.progress.now.notes.items c.in_ok-pass_rule_again.ensures.kept c.loop-position.invariant.1,
    )
