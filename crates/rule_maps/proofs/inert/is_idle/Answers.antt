use native.Mathlib.Omega.{arith}
use Rattle.std.proofs.Common.{ap, sym, subst, refl, List, ℕ, length, Contains, inl, inr, false}
use Rattle.std.proofs.lemmas.List.Elements.{recursion_from_All}
use Rattle.grid_geom.proofs.Booleans.{clash}
use Rattle.rule_maps.proofs.Idle.{either_last, named_last}
use Rattle.rule_maps.proofs.inert.is_idle.Goals as goal

pub loop-element-preserved : goal.loop-element-preserved
loop-element-preserved c = λ k d h m. elim (either_last k c.loop-element.element-index h) [
  | inl i ↦ c.loop-element.invariant k d i m
  | inr i ↦ clash false refl (c.if-is_named.ensures.1 (subst (λ (cs : List ℕ). Contains cs c.args.point) (sym c.as_slice.ensures) (named_last c.loop-element.element-index c.args.point k d c.element-item.result c.as_slice-element-items.ensures i c.loop-element-test.true c.element-item.is m)))
]

pub returns : goal.returns
returns c = (λ t. recursion_from_All (λ corners. ¬ Contains corners c.args.point) c.args.rule.now.elements (λ k d h. c.loop-element.invariant k d (omega (arith, h, c.loop-element-test.false, ap (λ (xs : List (List ℕ)). length xs) c.as_slice-element-items.ensures))), λ a. refl)
