-- The walk over the risers of a strip, from left to right.
use Rattle.std.proofs.Common.{◌≡◌, ◌≢◌, ℕ, ◌+◌, ◌<◌, ◌≤◌, Bool, List, length, slice_index_or, take, sum_by, sym, subst, refl, arith, ◌⊎◌, inl, inr}
use lib.IntN.{ℤ, pos, ◌-ℤ◌}
use Rattle.std.proofs.lemmas.Int.{ints}
use Rattle.std.proofs.lemmas.Bool.{cases_lt}
use Rattle.std.proofs.lemmas.List.Sums.{sum_by_more}
use Rattle.geom_check.specs.declared.risers.Passing.{Passing}
use Rattle.geom_check.specs.RiserOrder.{west_of, east_of, rises, IsFaultyAfter}
use Rattle.geom_check.specs.Accepted.{IsZeroOrOne}

-- the first i risers, from left to right, with no fault up to the last of them
pub record IsWalked (chosen : ℕ → Bool) (ps : List Passing) (i easts wests : ℕ) : Type 0 where
  pub easts_are : easts ≡ sum_by (east_of chosen) (take i ps)
  pub wests_are : wests ≡ sum_by (west_of chosen) (take i ps)
  pub easts_few : easts ≤ i
  pub wests_few : wests ≤ i
  pub sides : (k : ℕ) → k ≤ i → IsZeroOrOne (rises chosen (take k ps))

rises_are : (m n : ℕ) (e w : ℕ) → m ≡ e → n ≡ w → pos e -ℤ pos w ≡ pos m -ℤ pos n
rises_are m n e w f g = omega (arith, ints)

side_if : (m n : ℕ) → (m ≡ n) ⊎ (m ≡ n + 1) → IsZeroOrOne (pos m -ℤ pos n)
side_if m n (inl e) = inl (omega (arith, ints))
side_if m n (inr e) = inr (omega (arith, ints))

no_side : (m n : ℕ) → m ≢ n → m ≢ n + 1 → IsZeroOrOne (pos m -ℤ pos n) → ⊥
no_side m n e f (inl g) = e (omega (arith, ints))
no_side m n e f (inr g) = f (omega (arith, ints))

pub walk_start : (chosen : ℕ → Bool) (ps : List Passing) → IsWalked chosen ps 0 0 0
walk_start chosen ps = record { easts_are = refl; wests_are = refl; easts_few = omega arith; wests_few = omega arith; sides = λ k h. let e : k ≡ 0 = omega arith in subst (λ (n : ℕ). IsZeroOrOne (rises chosen (take n ps))) (sym e) (inl refl) }

pub walk_more : (chosen : ℕ → Bool) (ps : List Passing) (i : ℕ) (d : Passing) (easts wests m n : ℕ) → i < length ps → IsWalked chosen ps i easts wests → m ≡ east_of chosen (slice_index_or ps i d) → n ≡ west_of chosen (slice_index_or ps i d) → m ≤ 1 → n ≤ 1 →
    (easts + m ≡ wests + n) ⊎ (easts + m ≡ (wests + n) + 1) → IsWalked chosen ps (i + 1) (easts + m) (wests + n)
walk_more chosen ps i d easts wests m n h w e f sm sn side = record {
  easts_are = next_easts;
  wests_are = next_wests;
  easts_few = omega (arith, w.easts_few);
  wests_few = omega (arith, w.wests_few);
  sides = λ k j. elim (cases_lt k (i + 1)) [
    | inl l ↦ w.sides k (omega arith)
    | inr l ↦ let g : k ≡ i + 1 = omega arith in subst (λ (z : ℕ). IsZeroOrOne (rises chosen (take z ps))) (sym g) (subst (λ (z : ℤ). IsZeroOrOne z) (sym (rises_are (easts + m) (wests + n) (sum_by (east_of chosen) (take (i + 1) ps)) (sum_by (west_of chosen) (take (i + 1) ps)) next_easts next_wests)) (side_if (easts + m) (wests + n) side))
  ];
}
  where
    sum_next : (a b c s t : ℕ) → a ≡ s → b ≡ c → t ≡ s + c → a + b ≡ t
    sum_next a b c s t e f g = omega arith

    next_easts : easts + m ≡ sum_by (east_of chosen) (take (i + 1) ps)
    next_easts = sum_next easts m (east_of chosen (slice_index_or ps i d)) (sum_by (east_of chosen) (take i ps)) (sum_by (east_of chosen) (take (i + 1) ps)) w.easts_are e (sum_by_more (east_of chosen) ps i d h)

    next_wests : wests + n ≡ sum_by (west_of chosen) (take (i + 1) ps)
    next_wests = sum_next wests n (west_of chosen (slice_index_or ps i d)) (sum_by (west_of chosen) (take i ps)) (sum_by (west_of chosen) (take (i + 1) ps)) w.wests_are f (sum_by_more (west_of chosen) ps i d h)

pub walk_fault : (chosen : ℕ → Bool) (ps : List Passing) (i : ℕ) (d : Passing) (easts wests m n : ℕ) → i < length ps → IsWalked chosen ps i easts wests → m ≡ east_of chosen (slice_index_or ps i d) → n ≡ west_of chosen (slice_index_or ps i d) →
    easts + m ≢ wests + n → easts + m ≢ (wests + n) + 1 → IsFaultyAfter chosen ps i
walk_fault chosen ps i d easts wests m n h w e f apart more = record {
  in_list = h;
  fault = λ s. no_side (easts + m) (wests + n) apart more (subst (λ (z : ℤ). IsZeroOrOne z) (rises_are (easts + m) (wests + n) (sum_by (east_of chosen) (take (i + 1) ps)) (sum_by (west_of chosen) (take (i + 1) ps)) next_easts next_wests) s);
  first = w.sides;
}
  where
    sum_next : (a b c s t : ℕ) → a ≡ s → b ≡ c → t ≡ s + c → a + b ≡ t
    sum_next a b c s t e f g = omega arith

    next_easts : easts + m ≡ sum_by (east_of chosen) (take (i + 1) ps)
    next_easts = sum_next easts m (east_of chosen (slice_index_or ps i d)) (sum_by (east_of chosen) (take i ps)) (sum_by (east_of chosen) (take (i + 1) ps)) w.easts_are e (sum_by_more (east_of chosen) ps i d h)

    next_wests : wests + n ≡ sum_by (west_of chosen) (take (i + 1) ps)
    next_wests = sum_next wests n (west_of chosen (slice_index_or ps i d)) (sum_by (west_of chosen) (take i ps)) (sum_by (west_of chosen) (take (i + 1) ps)) w.wests_are f (sum_by_more (west_of chosen) ps i d h)
