-- Two lists in which each element stands equally often have the same sum of any function.
-- Elements are told apart by a test `same`, of which it is asked that it says true of equal elements and of no others.
use Prim.Native.Nat.{ℕ, ◌+◌, ◌≤◌}
use lib.IntN.{ℤ, pos, ◌+ℤ◌}
use lib.Dec.{T}
use mathlib.Core.Path.{◌≡◌, refl, sym, ap, ◌∙◌, subst}
use mathlib.Core.Bool.{Bool, true, false, cond}
use mathlib.Core.List.{List, [], ◌∷◌}
use native.Mathlib.Omega.{arith}
use Rattle.std.proofs.lemmas.Int.{ints}

pub record IsTestOfEqual {X : Type 0} (same : X → X → Bool) : Type 0 where
  pub sound : (x y : X) → same x y ≡ true → x ≡ y
  pub reflexive : (x : X) → same x x ≡ true

-- how often w stands in the list
abbrev pub count : {X : Type 0} → (X → X → Bool) → X → List X → ℕ
count same w [] = 0
count same w (u ∷ us) = cond (same u w) 1 0 + count same w us

abbrev pub total : {X : Type 0} → (X → ℤ) → List X → ℤ
total g [] = pos 0
total g (u ∷ us) = g u +ℤ total g us

-- the list but for the first w in it
abbrev without : {X : Type 0} → (X → X → Bool) → X → List X → List X
without same w [] = []
without same w (u ∷ us) = elim (same u w) [ true ↦ us | false ↦ u ∷ without same w us ]

pub none_less : 1 ≤ 0 → ⊥
none_less h = omega arith

moved : (a b c d : ℤ) → d ≡ b +ℤ c → a +ℤ d ≡ b +ℤ (a +ℤ c)
moved a b c d e = omega (arith, ints)

moved_count : (a b c d : ℕ) → d ≡ b + c → a + d ≡ b + (a + c)
moved_count a b c d e = omega arith

in_rest : (n : ℕ) (b : Bool) → b ≡ false → 1 ≤ cond b 1 0 + n → 1 ≤ n
in_rest n true e h = absurd (subst (λ (b : Bool). T b) e tt)
in_rest n false e h = omega arith

total_without : {X : Type 0} (same : X → X → Bool) → IsTestOfEqual same → (g : X → ℤ) (w : X) (us : List X) → 1 ≤ count same w us → total g us ≡ g w +ℤ total g (without same w us)
total_without same t g w [] h = absurd (none_less h)
total_without {X} same t g w (u ∷ us) h = (elim (same u w) as (λ (b : Bool). same u w ≡ b → g u +ℤ total g us ≡ g w +ℤ total g (elim b [ true ↦ us | false ↦ u ∷ without same w us ])) [
  | true ↦ λ e. ap (λ (z : X). g z +ℤ total g us) (t.sound u w e)
  | false ↦ λ e. moved (g u) (g w) (total g (without same w us)) (total g us) (total_without same t g w us (in_rest (count same w us) (same u w) e h))
]) refl

count_without : {X : Type 0} (same : X → X → Bool) → IsTestOfEqual same → (x w : X) (us : List X) → 1 ≤ count same w us → count same x us ≡ cond (same w x) 1 0 + count same x (without same w us)
count_without same t x w [] h = absurd (none_less h)
count_without {X} same t x w (u ∷ us) h = (elim (same u w) as (λ (b : Bool). same u w ≡ b → cond (same u x) 1 0 + count same x us ≡ cond (same w x) 1 0 + count same x (elim b [ true ↦ us | false ↦ u ∷ without same w us ])) [
  | true ↦ λ e. ap (λ (z : X). cond (same z x) 1 0 + count same x us) (t.sound u w e)
  | false ↦ λ e. moved_count (cond (same u x) 1 0) (cond (same w x) 1 0) (count same x (without same w us)) (count same x us) (count_without same t x w us (in_rest (count same w us) (same u w) e h))
]) refl

-- the first element of a list stands in it
pub stands : {X : Type 0} (same : X → X → Bool) → IsTestOfEqual same → (x : X) (us : List X) (n : ℕ) → cond (same x x) 1 0 + count same x us ≡ n → 1 ≤ n
stands same t x us n e = seen (same x x) (count same x us) n (t.reflexive x) e
  where
    seen : (b : Bool) (m n : ℕ) → b ≡ true → cond b 1 0 + m ≡ n → 1 ≤ n
    seen true m n e h = omega arith
    seen false m n e h = absurd (subst (λ (b : Bool). T b) (sym e) tt)

pub cancel : (a b c d : ℕ) → a + b ≡ d → d ≡ a + c → b ≡ c
cancel a b c d e h = omega arith

pub same_total : {X : Type 0} (same : X → X → Bool) → IsTestOfEqual same → (g : X → ℤ) (us ws : List X) → ((x : X) → count same x us ≡ count same x ws) → total g us ≡ total g ws
same_total same t g [] [] h = refl
same_total same t g [] (w ∷ ws) h = absurd (none_less (stands same t w ws 0 (sym (h w))))
same_total same t g (u ∷ us) ws h =
    ap (λ (z : ℤ). g u +ℤ z) (same_total same t g us (without same u ws) (λ x. cancel (cond (same u x) 1 0) (count same x us) (count same x (without same u ws)) (count same x ws) (h x) (count_without same t x u ws here)))
    ∙ sym (total_without same t g u ws here)
  where
    here : 1 ≤ count same u ws
    here = stands same t u us (count same u ws) (h u)
