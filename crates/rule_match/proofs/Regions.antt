-- Fresh numbers of a region, and a region narrowed to them.
use Prim.Native.Nat.{ℕ, zero, suc, ◌+◌, ◌<◌, ◌≤◌}
use mathlib.Core.Path.{◌≡◌, refl, sym, subst, ap, ◌∙◌}
use mathlib.Core.Bool.{false}
use mathlib.Core.List.{List, [], ◌∷◌, ◌++◌}
use mathlib.Core.Logic.{inl, inr}
use Rattle.std.proofs.lemmas.Bool.{eqb-false}
use native.Mathlib.Omega.{arith}
use Rattle.std.specs.Prelude.{nat_eq, length, slice_index_or, slice_set}
use Rattle.std.specs.List.{Contains}
use Rattle.std.specs.declared.vec.Vec.{Vec}
use Rattle.std.specs.declared.alloc.Global.{Global}
use Rattle.std.proofs.lemmas.Bool.{cases_lt}
use Rattle.std.proofs.lemmas.List.Elements.{Contains-append_cases, Contains-append_left, Contains-append_right}
use Rattle.rule_match.specs.Walk.{AreOf}
use Rattle.rule_match.proofs.Turns.{any_fallback, element}

pub kept : (fresh region common new : List ℕ) (n : ℕ) → new ≡ common ++ slice_index_or fresh n 0 ∷ [] → n < length fresh →
    ((p k : ℕ) → k < n → slice_index_or fresh k p ≡ p → Contains region p → Contains common p) →
    (p k : ℕ) → k < n + 1 → slice_index_or fresh k p ≡ p → Contains region p → Contains new p
kept fresh region common new n e w h p k i f r = subst (λ (z : List ℕ). Contains z p) (sym e) (elim (cases_lt k n) [
  | inl j ↦ Contains-append_left common (slice_index_or fresh n 0 ∷ []) p (h p k j f r)
  | inr j ↦ Contains-append_right common (slice_index_or fresh n 0 ∷ []) p (0, omega arith, element fresh k n p j i w f)
])

pub passed : (fresh region common : List ℕ) (n : ℕ) → n < length fresh → ((k d : ℕ) → 0 ≤ k → k < length region → nat_eq (slice_index_or region k d) (slice_index_or fresh n 0) ≡ false) →
    ((p k : ℕ) → k < n → slice_index_or fresh k p ≡ p → Contains region p → Contains common p) →
    (p k : ℕ) → k < n + 1 → slice_index_or fresh k p ≡ p → Contains region p → Contains common p
passed fresh region common n w none h p k i f r = elim (cases_lt k n) [
  | inl j ↦ h p k j f r
  | inr j ↦ absurd (eqb-false (slice_index_or region r.0 p) (slice_index_or fresh n 0) (none r.0 p (omega arith) r.1) (other r.2 (element fresh k n p j i w f)))
]
  where
    other : {a b c : ℕ} → a ≡ c → b ≡ c → a ≡ b
    other e f = e ∙ sym f

pub none_held : (p : ℕ) → Contains [] p → ⊥
none_held p h = omega (arith, h.1)

-- what a list of one number holds is this number
pub single : (x p k : ℕ) → k < length (x ∷ []) → slice_index_or (x ∷ []) k p ≡ p → x ≡ p
single x p zero h e = e
single x p (suc k) h e = absurd (omega (arith, h))

pub only_kept : (fresh common new : List ℕ) (n : ℕ) → new ≡ common ++ slice_index_or fresh n 0 ∷ [] → n < length fresh → ((p : ℕ) → Contains common p → Contains fresh p) → (p : ℕ) → Contains new p → Contains fresh p
only_kept fresh common new n e w h p r = elim (Contains-append_cases common (slice_index_or fresh n 0 ∷ []) p (subst (λ (z : List ℕ). Contains z p) e r)) [
  | inl i ↦ h p i
  | inr i ↦
      let there : Contains fresh (slice_index_or fresh n 0) = (n, w, any_fallback fresh n (slice_index_or fresh n 0) 0 w) in
      subst (Contains fresh) (single (slice_index_or fresh n 0) p i.0 i.1 i.2) there
]

-- a region that is narrowed to numbers that the assignment has there
pub narrowed : (regions : List (Vec ℕ Global)) (k : ℕ) (narrow : Vec ℕ Global) (b : List ℕ) → k < length regions → AreOf regions b →
    Contains narrow.items (slice_index_or b k 0) → AreOf (slice_set regions k narrow) b
narrowed [] k narrow b h a n = absurd (omega (arith, h))
narrowed (r ∷ regions) k narrow [] h a n = absurd a
narrowed (r ∷ regions) zero narrow (p ∷ b) h a n = (n, a.1)
narrowed (r ∷ regions) (suc k) narrow (p ∷ b) h a n = (a.0, narrowed regions k narrow b (omega (arith, h)) a.1 n)

-- the number that an assignment has at k is of the region there
pub in_region : (regions : List (Vec ℕ Global)) (k : ℕ) (d : Vec ℕ Global) (b : List ℕ) → k < length regions → AreOf regions b → Contains ((slice_index_or regions k d).items) (slice_index_or b k 0)
in_region [] k d b h a = absurd (omega (arith, h))
in_region (r ∷ regions) k d [] h a = absurd a
in_region (r ∷ regions) zero d (p ∷ b) h a = a.0
in_region (r ∷ regions) (suc k) d (p ∷ b) h a = in_region regions k d b (omega (arith, h)) a.1

pub set_back : (regions : List (Vec ℕ Global)) (k : ℕ) (narrow back d : Vec ℕ Global) → back ≡ slice_index_or regions k d → slice_set (slice_set regions k narrow) k back ≡ regions
set_back [] k narrow back d e = refl
set_back (r ∷ regions) zero narrow back d e = ap (λ (z : Vec ℕ Global). z ∷ regions) e
set_back (r ∷ regions) (suc k) narrow back d e = ap (λ (z : List (Vec ℕ Global)). r ∷ z) (set_back regions k narrow back d e)
