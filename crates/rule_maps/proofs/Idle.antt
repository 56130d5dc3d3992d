-- New points that no element names: what the code of `has_idle_point` finds.
use Prim.Native.Nat.{ℕ, ◌+◌, ◌-◌, ◌<◌, ◌≤◌}
use mathlib.Core.Bool.{true, false}
use mathlib.Core.List.{List}
use mathlib.Core.Logic.{◌⊎◌, inl, inr}
use mathlib.Core.Path.{◌≡◌, refl, sym, ap, ◌∙◌, subst}
use native.Mathlib.Omega.{arith}
use lib.ListN.{get_or}
use Rattle.std.proofs.lemmas.List.{get_or_default}
use Rattle.grid_geom.proofs.Booleans.{clash}
use Rattle.std.specs.Prelude.{length}
use Rattle.std.specs.List.{AllByRecursion, Contains}
use Rattle.rule_reader.specs.declared.rule.MapPoint.{MapPoint}
use Rattle.rule_reader.specs.declared.rule.Place.{Place}
use Rattle.rule_reader.specs.declared.rule.Rule.{Rule}
use Rattle.rule_maps.specs.Inert.{HasIdlePoint}

abbrev pub IsNamedNowhere : Rule → ℕ → Type 0
IsNamedNowhere r n = AllByRecursion (λ corners. ¬ Contains corners n) r.elements

pub idle_at : (r : Rule) (k : ℕ) {ps : List MapPoint} {ns : List Place} → ps ≡ r.points → ns ≡ r.new_points → k < length ns → IsNamedNowhere r (length ps + 1 + k) → HasIdlePoint r
idle_at r k {ps} {ns} e f h j = record {
  point = k + 1;
  first = omega arith;
  last = subst (λ (xs : List Place). k + 1 ≤ length xs) f (omega (arith, h));
  idle = subst (λ (n : ℕ). IsNamedNowhere r n) (number (ap (λ (xs : List MapPoint). length xs) e)) j;
}
  where
    number : length ps ≡ length r.points → length ps + 1 + k ≡ length r.points + (k + 1)
    number i = omega (arith, i)

pub either_last : (k n : ℕ) → k < n + 1 → (k < n) ⊎ (k ≡ n)
either_last k n h = grind arith

pub still_named : (r : Rule) (n : ℕ) {ps : List MapPoint} → ps ≡ r.points → ((k : ℕ) → k < n → IsNamedNowhere r (length r.points + 1 + k) → ⊥) → (IsNamedNowhere r (length ps + 1 + n) → false ≡ true) → (k : ℕ) → k < n + 1 → IsNamedNowhere r (length r.points + 1 + k) → ⊥
still_named r n {ps} e before last k h idle = elim (either_last k n h) [
  | inl i ↦ before k i idle
  | inr i ↦ clash false refl (last (subst (λ (m : ℕ). IsNamedNowhere r (m + 1 + n)) (ap (λ (xs : List MapPoint). length xs) (sym e)) (subst (λ (m : ℕ). IsNamedNowhere r (length r.points + 1 + m)) i idle)))
]

pub none_idle : (r : Rule) (n : ℕ) {ns : List Place} → ns ≡ r.new_points → length ns ≤ n → ((k : ℕ) → k < n → IsNamedNowhere r (length r.points + 1 + k) → ⊥) → HasIdlePoint r → ⊥
none_idle r n {ns} e h before idle = before (idle.point - 1) (omega (arith, h, idle.first, idle.last, ap (λ (xs : List Place). length xs) e)) (subst (λ (m : ℕ). IsNamedNowhere r m) (number idle.point idle.first) idle.idle)
  where
    number : (p : ℕ) → 1 ≤ p → length r.points + p ≡ length r.points + 1 + (p - 1)
    number p i = omega (arith, i)

-- an element that was looked at, under any fallback
pub named_last : {xs ys : List (List ℕ)} (n point k : ℕ) (d item : List ℕ) → ys ≡ xs → k ≡ n → n < length ys → item ≡ get_or ys n item → Contains (get_or xs k d) point → Contains item point
named_last {xs} {ys} n point k d item e i h f m = subst (λ (cs : List ℕ). Contains cs point) (ap (λ (zs : List (List ℕ)). get_or zs k d) (sym e) ∙ ap (λ (l : ℕ). get_or ys l d) i ∙ get_or_default ys n d item h ∙ sym f) m
