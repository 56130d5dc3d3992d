use Rattle.std.proofs.Common.{◌≡◌, ℕ, Some, IfNone, subst, arith, inl, inr}
use Rattle.std.proofs.lemmas.Bool.{cases_lt}
use Rattle.geom_check.specs.Risers.{is_chosen}
use Rattle.geom_check.specs.RiserOrder.{IsSoundAll}
use Rattle.geom_check.proofs.windings.first_side.Goals as goal

pub loop-domain-preserved : goal.loop-domain-preserved
loop-domain-preserved c d h k = elim (cases_lt d c.loop-domain.domain) [
  | inl l ↦ c.loop-domain.invariant d h l
  | inr l ↦
      let e : c.loop-domain.domain ≡ d = omega arith in
      subst (λ (n : ℕ). IsSoundAll (is_chosen (Some n)) c.args.risers.now) e (subst (λ o. IfNone o (IsSoundAll (is_chosen (Some c.loop-domain.domain)) c.args.risers.now)) c.in_default.is c.in_ok-at.ensures.none)
]

pub returns-clause-none : goal.returns-clause-none
returns-clause-none c d h k = c.loop-domain.invariant d h (omega arith)
