-- Sums over a list of which a test passes all elements from some place on.
use Rattle.std.proofs.Common.{◌≡◌, ℕ, zero, suc, ◌+◌, ◌<◌, ◌≤◌, Bool, true, false, List, [], ◌∷◌, length, slice_index_or, AllPairs, drop, sum_by, sym, ◌∙◌, ap, refl, arith, cond}
use Rattle.std.proofs.lemmas.List.Sums.{sum_by-cons}

pub all_counted : {X : Type 0} (left : X → Bool) (g : X → ℕ) (xs : List X) → ((i : ℕ) (d : X) → i < length xs → left (slice_index_or xs i d) ≡ true) → sum_by (λ x. cond (left x) (g x) 0) xs ≡ sum_by g xs
all_counted left g [] all = refl
all_counted left g (x ∷ xs) all =
    sum_by-cons (λ x. cond (left x) (g x) 0) x xs ∙ ap (λ (b : Bool). cond b (g x) 0 + sum_by (λ x. cond (left x) (g x) 0) xs) (all 0 x (omega arith))
    ∙ ap (λ (n : ℕ). g x + n) (all_counted left g xs (λ i d h. all (suc i) d (omega arith))) ∙ sym (sum_by-cons g x xs)

-- where a test passes all elements from some place on, only those count
pub split : {X : Type 0} (left : X → Bool) (xs : List X) → AllPairs (λ x y. left x ≡ true → left y ≡ true) xs →
    (j : ℕ) × (j ≤ length xs) × ((g : X → ℕ) → sum_by (λ x. cond (left x) (g x) 0) xs ≡ sum_by g (drop j xs)) × ((i : ℕ) (d : X) → i < length xs → left (slice_index_or xs i d) ≡ true → j ≤ i) × ((i : ℕ) (d : X) → i < length xs → left (slice_index_or xs i d) ≡ false → i < j)
split {X = X} left [] later = (0, omega arith, λ g. refl, λ i d h e. omega arith, λ i d h e. absurd (omega arith))
split {X = X} left (x ∷ xs) later = by_first (split left xs (λ i k d h m. later (suc i) (suc k) d (omega arith) (omega arith))) (left x) refl
  where
    none : (m n : ℕ) → m ≡ n → 0 + m ≡ n
    none m n e = omega arith

    all : left x ≡ true → (i : ℕ) (d : X) → i < length (x ∷ xs) → left (slice_index_or (x ∷ xs) i d) ≡ true
    all e zero d h = e
    all e (suc i) d h = later 0 (suc i) d (omega arith) h e

    clash : (b : Bool) → b ≡ true → b ≡ false → ⊥
    clash b e f = cc

    before : (j : ℕ) → ((i : ℕ) (d : X) → i < length xs → left (slice_index_or xs i d) ≡ true → j ≤ i) → left x ≡ false → (i : ℕ) (d : X) → i < length (x ∷ xs) → left (slice_index_or (x ∷ xs) i d) ≡ true → suc j ≤ i
    before j f e zero d h t = absurd (clash (left x) t e)
    before j f e (suc i) d h t = omega (arith, f i d (omega arith) t)

    after : (j : ℕ) → ((i : ℕ) (d : X) → i < length xs → left (slice_index_or xs i d) ≡ false → i < j) → (i : ℕ) (d : X) → i < length (x ∷ xs) → left (slice_index_or (x ∷ xs) i d) ≡ false → i < suc j
    after j f zero d h t = omega arith
    after j f (suc i) d h t = omega (arith, f i d (omega arith) t)

    by_first : ((j : ℕ) × (j ≤ length xs) × ((g : X → ℕ) → sum_by (λ x. cond (left x) (g x) 0) xs ≡ sum_by g (drop j xs)) × ((i : ℕ) (d : X) → i < length xs → left (slice_index_or xs i d) ≡ true → j ≤ i) × ((i : ℕ) (d : X) → i < length xs → left (slice_index_or xs i d) ≡ false → i < j)) → (b : Bool) → left x ≡ b →
        (j : ℕ) × (j ≤ length (x ∷ xs)) × ((g : X → ℕ) → sum_by (λ x. cond (left x) (g x) 0) (x ∷ xs) ≡ sum_by g (drop j (x ∷ xs))) × ((i : ℕ) (d : X) → i < length (x ∷ xs) → left (slice_index_or (x ∷ xs) i d) ≡ true → j ≤ i) × ((i : ℕ) (d : X) → i < length (x ∷ xs) → left (slice_index_or (x ∷ xs) i d) ≡ false → i < j)
    by_first rest true e = (0, omega arith, λ g. all_counted left g (x ∷ xs) (all e), λ i d h t. omega arith, λ i d h t. absurd (clash (left (slice_index_or (x ∷ xs) i d)) (all e i d h) t))
    by_first rest false e = (suc rest.0, omega (arith, rest.1), λ g. sum_by-cons (λ x. cond (left x) (g x) 0) x xs ∙ ap (λ (b : Bool). cond b (g x) 0 + sum_by (λ x. cond (left x) (g x) 0) xs) e ∙ none (sum_by (λ x. cond (left x) (g x) 0) xs) (sum_by g (drop rest.0 xs)) (rest.2 g), before rest.0 rest.3 e, after rest.0 rest.4)
