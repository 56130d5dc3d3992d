-- A table that is read row by row: how many items it has, which is which, and numbers of places.
use Rattle.std.proofs.Common.{◌≡◌, ℕ, ◌+◌, ◌*◌, ◌/◌, ◌%◌, ◌<◌, ◌≤◌, List, [], ◌∷◌, ◌++◌, map, length, slice_index_or, All, inl, inr, sym, ◌∙◌, ap, subst, arith}
use Rattle.std.specs.List.{range_with_len}
use Rattle.std.proofs.Math.Nat.{mod-lt, div-lt_iff_lt-mul, mul-le-mul_right}
use Rattle.std.proofs.lemmas.Nat.{div-add-mod'}
use Rattle.std.proofs.lemmas.Bool.{cases_order}
use Rattle.std.proofs.lemmas.List.FromFn.{length-map-range_with_len, get_or-map-range_with_len, map-range_with_len_more}
use Rattle.std.proofs.lemmas.List.Elements.{All-from_get_or}
use Rattle.sample.specs.Squares.{in_rows}

pub count_in_rows : {A : Type 0} (f : ℕ → ℕ → A) (c r : ℕ) → length (in_rows f c r) ≡ c * r
count_in_rows f c r = length-map-range_with_len (λ k. f (k % c) (k / c)) 0 (c * r)

pub item_in_rows : {A : Type 0} (f : ℕ → ℕ → A) (c r k : ℕ) (d : A) → k < c * r → slice_index_or (in_rows f c r) k d ≡ f (k % c) (k / c)
item_in_rows f c r k d h = get_or-map-range_with_len (λ i. f (i % c) (i / c)) 0 (c * r) k k d h (omega arith)

pub row_below : (c r k : ℕ) → 0 < c → k < c * r → k / c < r
row_below c r k h j = (div-lt_iff_lt-mul h).1 (omega arith)

pub column_below : (c k : ℕ) → 0 < c → k % c < c
column_below c k h = mod-lt k h

pub place_number : (c k : ℕ) → k / c * c + k % c ≡ k
place_number c k = div-add-mod' k c

-- a row begins behind the row below it
pub next_row : (c j y : ℕ) → j < y → j * c + c ≤ y * c
next_row c j y h = omega (arith, mul-le-mul_right c h)

pub one_place : (c i j x y : ℕ) → i < c → x < c → j * c + i ≡ y * c + x → (i ≡ x) × (j ≡ y)
one_place c i j x y h k e = elim (cases_order j y) [
  | inl s ↦ let f : j * c ≡ y * c = ap (λ (z : ℕ). z * c) s in (omega arith, s)
  | inr r ↦ elim r [ inl n ↦ absurd (omega (arith, next_row c j y n)) | inr n ↦ absurd (omega (arith, next_row c y j n)) ]
]

-- what holds at each place holds of each item
pub each_in_rows : {A : Type 0} (P : A → Type 0) (f : ℕ → ℕ → A) (c r : ℕ) (d : A) → 0 < c → ((i j : ℕ) → i < c → j < r → P (f i j)) → All P (in_rows f c r)
each_in_rows P f c r d h all = All-from_get_or P (in_rows f c r) d here
  where
    here : (k : ℕ) → k < length (in_rows f c r) → P (slice_index_or (in_rows f c r) k d)
    here k j =
        let b : k < c * r = omega (arith, count_in_rows f c r) in
        subst P (sym (item_in_rows f c r k d b)) (all (k % c) (k / c) (column_below c k h) (row_below c r k h b))

-- one more item of a list by its numbers
pub one_more : {A : Type 0} (f : ℕ → A) (k : ℕ) (old new : List A) (x : A) → old ≡ map f (range_with_len 0 k) → new ≡ old ++ x ∷ [] → x ≡ f k → new ≡ map f (range_with_len 0 (k + 1))
one_more f k old new x e g h = g ∙ ap (λ xs. xs ++ x ∷ []) e ∙ ap (λ z. map f (range_with_len 0 k) ++ z ∷ []) h ∙ sym (map-range_with_len_more f 0 k k (omega arith))
