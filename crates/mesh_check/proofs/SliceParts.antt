-- A slice seen as its first item and the rest.
use Rattle.std.proofs.Common.{◌≡◌, ℕ, suc, ◌-◌, ◌<◌, ◌≤◌, List, [], ◌∷◌, length, take, drop, slice_index_or, refl, sym, ◌∙◌, ap, arith}
use Rattle.std.proofs.lemmas.List.{take_all}

pub split_first : {X : Type 0} (xs : List X) (d : X) → 1 ≤ length xs → xs ≡ slice_index_or xs 0 d ∷ take (length xs - 1) (drop 1 xs)
split_first [] d h = absurd (omega (arith, h))
split_first {X} (x ∷ xs) d h = ap (λ (ys : List X). x ∷ ys) (sym (ap (λ (n : ℕ). take n xs) (plain (length xs)) ∙ take_all (length xs) xs (same (length xs))))
  where
    plain : (n : ℕ) → suc n - 1 ≡ n
    plain n = omega arith

    same : (n : ℕ) → n ≤ n
    same n = omega arith

pub none_left : {X : Type 0} (xs : List X) → length xs < 1 → xs ≡ []
none_left [] h = refl
none_left (x ∷ xs) h = absurd (omega (arith, h))
