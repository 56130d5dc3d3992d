-- One turn of a loop over the numbers of a region.
use Prim.Native.Nat.{ℕ, zero, suc, ◌+◌, ◌<◌, ◌≤◌}
use native.Mathlib.Omega.{arith}
use mathlib.Core.Path.{◌≡◌, refl, sym, subst, ap, ◌∙◌}
use mathlib.Core.List.{List, [], ◌∷◌, ◌++◌}
use Rattle.std.specs.Prelude.{length, slice_index_or}

-- a statement on how an assignment goes on, with the chosen points and the number under other names
pub carried : (F G : List ℕ → Type 0) (a b rest : List ℕ) (p q : ℕ) → a ≡ b → p ≡ q → (F (a ++ p ∷ rest) → G (a ++ p ∷ rest)) → F (b ++ q ∷ rest) → G (b ++ q ∷ rest)
carried F G a b rest p q e d h = subst (λ (z : ℕ). F (b ++ z ∷ rest) → G (b ++ z ∷ rest)) d (subst (λ (z : List ℕ). F (z ++ p ∷ rest) → G (z ++ p ∷ rest)) e h)

-- an element within, under another fallback
pub any_fallback : (xs : List ℕ) (n a b : ℕ) → n < length xs → slice_index_or xs n a ≡ slice_index_or xs n b
any_fallback [] n a b h = absurd (omega (arith, h))
any_fallback (x ∷ xs) zero a b h = refl
any_fallback (x ∷ xs) (suc n) a b h = any_fallback xs n a b (omega (arith, h))

-- the number of this turn, under another fallback
pub element : (xs : List ℕ) (k n q : ℕ) → n ≤ k → k < n + 1 → n < length xs → slice_index_or xs k q ≡ q → slice_index_or xs n 0 ≡ q
element xs k n q h i j e = by_place xs k n q (omega (arith, h, i)) j e
  where
    by_place : (xs : List ℕ) (k n q : ℕ) → k ≡ n → n < length xs → slice_index_or xs k q ≡ q → slice_index_or xs n 0 ≡ q
    by_place xs k n q e j f = any_fallback xs n 0 q j ∙ (ap (λ (z : ℕ). slice_index_or xs z q) (sym e) ∙ f)
