-- The numbers of a rule: signs and decimals.
use Rattle.std.proofs.Common.{◌≡◌, ℕ, zero, suc, ◌<◌, ◌≤◌, true, false, Some, None, ℤ, pos, negsuc, neg_ℤ, ◌<ℤ◌, ◌≤ℤ◌, unsigned_abs, ltb, refl, arith}
use Rattle.std.proofs.lemmas.Int.{ints}
use Rattle.std.proofs.lemmas.Bool.{le-ltb, lt-ltb}
use Rattle.rule_reader.specs.Numbers.{places_of, with_sign}

pub no_places_above : (z : ℤ) → pos 0 <ℤ z → places_of z ≡ None
no_places_above (pos zero) h = absurd (omega (arith, ints))
no_places_above (pos (suc n)) h = refl
no_places_above (negsuc n) h = absurd (omega (arith, ints))

pub no_places_below : (z : ℤ) → z <ℤ negsuc 19 → places_of z ≡ None
no_places_below (pos n) h = absurd (omega (arith, ints))
no_places_below (negsuc n) h = let e : ltb n 20 ≡ false = le-ltb _ _ (omega (arith, ints)) in rw e refl

pub places_are : (z : ℤ) → z ≤ℤ pos 0 → negsuc 19 ≤ℤ z → (places_of z ≡ Some (unsigned_abs z)) × (unsigned_abs z ≤ 20)
places_are (pos zero) h k = (refl, omega arith)
places_are (pos (suc n)) h k = absurd (omega (arith, ints))
places_are (negsuc n) h k = let lt : n < 20 = omega (arith, ints) in let e : ltb n 20 ≡ true = lt-ltb _ _ lt in (rw e refl, omega arith)

pub sign_below : (z : ℤ) (n : ℕ) → z <ℤ pos 0 → with_sign z n ≡ neg_ℤ (pos n)
sign_below (pos k) n h = absurd (omega (arith, ints))
sign_below (negsuc k) n h = refl

pub sign_above : (z : ℤ) (n : ℕ) → pos 0 ≤ℤ z → with_sign z n ≡ pos n
sign_above (pos k) n h = refl
sign_above (negsuc k) n h = absurd (omega (arith, ints))
