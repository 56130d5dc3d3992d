use Rattle.std.proofs.Common.{◌≡◌, ℕ, ◌≤◌, ◌<◌, length, slice_index_or, arith, inl, inr, subst}
use Rattle.std.proofs.lemmas.Bool.{cases_lt}
use Rattle.std.proofs.lemmas.List.{get_or_default}
use Rattle.geom_check.specs.Walk.{DoAgreeAt}
use Rattle.geom_check.proofs.walk.do_changed_agree.Goals as goal

pub loop-place-preserved : goal.loop-place-preserved
loop-place-preserved c k d h = elim (cases_lt k c.loop-place.place-index) [
  | inl l ↦ c.loop-place.invariant k d l
  | inr l ↦
      let e : c.loop-place.place-index ≡ k = omega arith in
      subst (λ (n : ℕ). 1 ≤ slice_index_or c.args.changed.now n d → slice_index_or c.args.changed.now n d < length c.args.order.now → DoAgreeAt c.args.risers.now c.args.order.now (slice_index_or c.args.changed.now n d)) e
      (subst (λ (m : ℕ). 1 ≤ m → m < length c.args.order.now → DoAgreeAt c.args.risers.now c.args.order.now m) (get_or_default c.args.changed.now c.loop-place.place-index _ d (omega arith)) (c.do_agree_at.ensures.agree c.if-not-do_agree_at.false))
]
