-- What holds of all pairs of a list holds of all pairs of a list with the same elements in another order.
use Rattle.std.proofs.Common.{◌≡◌, ◌≢◌, ℕ, ◌<◌, List, [], ◌∷◌, length, slice_index_or, AllPairs, ◌⊎◌, inl, inr, sym, ◌∙◌, ap, subst, arith, refl, cond, ◌==◌}
use Rattle.std.specs.List.{swap}
use Rattle.std.specs.List.Sorted.{IsPermutation, apply_swaps, SwapsInRange}
use Rattle.std.proofs.lemmas.Bool.{cases_order}
use Rattle.std.proofs.lemmas.List.Edits.{swapped_from_swap, length-swap}

-- R holds of each two elements at different places
abbrev pub AllTwo : {X : Type 0} → (X → X → Type 0) → List X → Type 0
AllTwo {X} R xs = (i j : ℕ) (d : X) → i ≢ j → i < length xs → j < length xs → R (slice_index_or xs i d) (slice_index_or xs j d)

pub two_of : {X : Type 0} (R : X → X → Type 0) (xs : List X) → ((x y : X) → R x y → R y x) → AllPairs R xs → AllTwo R xs
two_of R xs back all i j d n h k = elim (cases_order i j) [
  | inl e ↦ absurd (n e)
  | inr r ↦ elim r [ inl l ↦ all i j d l k | inr l ↦ back (slice_index_or xs j d) (slice_index_or xs i d) (all j i d l h) ]
]

pub pairs_of : {X : Type 0} (R : X → X → Type 0) (xs : List X) → AllTwo R xs → AllPairs R xs
pairs_of R xs all i j d h k = all i j d (λ e. absurd (omega arith)) (omega arith) k

-- where the element at place i stood before a and b were exchanged
abbrev old : ℕ → ℕ → ℕ → ℕ
old a b i = cond (i == a) b (cond (i == b) a i)

old_apart : (a b i j : ℕ) → i ≢ j → old a b i ≡ old a b j → ⊥
old_apart a b i j n e = grind arith

old_below : (a b i n : ℕ) → a < n → b < n → i < n → old a b i < n
old_below a b i n h j k = grind arith

old_at_a : (a b : ℕ) → old a b a ≡ b
old_at_a a b = grind arith

old_at_b : (a b i : ℕ) → i ≢ a → i ≡ b → old a b i ≡ a
old_at_b a b i n e = grind arith

old_else : (a b i : ℕ) → i ≢ a → i ≢ b → old a b i ≡ i
old_else a b i n m = grind arith

same_or_not : (i j : ℕ) → (i ≡ j) ⊎ (i ≢ j)
same_or_not i j = elim (cases_order i j) [
  | inl e ↦ inl e
  | inr r ↦ elim r [ inl l ↦ inr (λ e. absurd (omega arith)) | inr l ↦ inr (λ e. absurd (omega arith)) ]
]

from_old : {X : Type 0} (xs ys : List X) (a b : ℕ) (d : X) → a < length xs → b < length xs → ys ≡ swap xs a b → (i : ℕ) → slice_index_or ys i d ≡ slice_index_or xs (old a b i) d
from_old xs ys a b d h k e i = elim (same_or_not i a) [
  | inl f ↦ ap (λ n. slice_index_or ys n d) f ∙ (swapped_from_swap xs ys a b d h k e).0 ∙ ap (λ n. slice_index_or xs n d) (sym (ap (λ n. old a b n) f ∙ old_at_a a b))
  | inr n ↦ elim (same_or_not i b) [
    | inl f ↦ ap (λ n. slice_index_or ys n d) f ∙ (swapped_from_swap xs ys a b d h k e).1 ∙ ap (λ n. slice_index_or xs n d) (sym (old_at_b a b i n f))
    | inr m ↦ (swapped_from_swap xs ys a b d h k e).2 i n m ∙ ap (λ n. slice_index_or xs n d) (sym (old_else a b i n m))
  ]
]

two_swapped : {X : Type 0} (R : X → X → Type 0) (xs ys : List X) (a b : ℕ) → a < length xs → b < length xs → ys ≡ swap xs a b → length ys ≡ length xs → AllTwo R xs → AllTwo R ys
two_swapped R xs ys a b h k e l all i j d n hi hj =
    subst (λ z. R z (slice_index_or ys j d)) (sym (from_old xs ys a b d h k e i))
    (subst (λ z. R (slice_index_or xs (old a b i) d) z) (sym (from_old xs ys a b d h k e j))
    (all (old a b i) (old a b j) d (old_apart a b i j n) (old_below a b i (length xs) h k (omega arith)) (old_below a b j (length xs) h k (omega arith))))

length_moved : {X : Type 0} (xs : List X) (ms : List (ℕ × ℕ)) → length (apply_swaps xs ms) ≡ length xs
length_moved xs [] = refl
length_moved xs (m ∷ ms) = length-swap (apply_swaps xs ms) m.0 m.1 ∙ length_moved xs ms

two_moved : {X : Type 0} (R : X → X → Type 0) (xs : List X) (ms : List (ℕ × ℕ)) → SwapsInRange (length xs) ms → AllTwo R xs → AllTwo R (apply_swaps xs ms)
two_moved R xs [] h all = all
two_moved R xs (m ∷ ms) h all = two_swapped R (apply_swaps xs ms) (swap (apply_swaps xs ms) m.0 m.1) m.0 m.1 (omega (arith, h.0, length_moved xs ms)) (omega (arith, h.1, length_moved xs ms)) refl (length-swap (apply_swaps xs ms) m.0 m.1) (two_moved R xs ms h.2 all)

-- what holds of all pairs, either way round, holds in any order
pub AllPairs-reordered : {X : Type 0} (R : X → X → Type 0) (xs ys : List X) → ((x y : X) → R x y → R y x) → IsPermutation xs ys → AllPairs R xs → AllPairs R ys
AllPairs-reordered R xs ys back p all = pairs_of R ys (subst (λ zs. AllTwo R zs) (sym p.is) (two_moved R xs p.moves p.below (two_of R xs back all)))
