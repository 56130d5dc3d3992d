-- Grid steps of decimals.
use Rattle.std.proofs.Common.{◌≡◌, ℕ, zero, suc, ◌*◌, ◌/◌, ◌%◌, ◌^◌, ◌<◌, ◌≤◌, ◌⊎◌, inl, inr, Bool, true, false, ◌&&◌, ◌==◌, None, refl, arith}
use Rattle.std.specs.Prelude.{nat_le}
use Rattle.std.proofs.Math.Nat.{one-le-pow, pow-le-pow_right, mul-le-mul_left, mul-le-mul_right, mod-eq_of_lt}
use Rattle.std.proofs.lemmas.Bool.{lt-leb, ne_eqb}
use Rattle.std.specs.Prelude.{ℤ, pos, negsuc, ◌+ℤ◌, ◌≤ℤ◌, ◌<ℤ◌, neg_ℤ, unsigned_abs}
use Rattle.std.proofs.lemmas.Int.{ints, to_z-of_z}
use Rattle.std.specs.Int.{w64}
use Rattle.std.proofs.Common.{to_z, of_z, SFits}
use Rattle.word_scan.specs.declared.decimals.Dec.{Dec}
use Rattle.grid_geom.specs.declared.TheConstants.{GRID}
use Rattle.vol_format.specs.Text.{tens}
use Rattle.vol_format.specs.Reading.{divided, steps_of}

and_false : (a b : Bool) → b ≡ false → (a && b) ≡ false
and_false true b e = e
and_false false b e = refl

-- more than the greatest many steps
too_far : (up greatest : ℕ) → greatest ≤ unsigned_abs GRID → 1000000000000 ≤ up → divided greatest up 15625 ≡ None
too_far up greatest small far =
    let past : greatest < up / 15625 = omega arith in
    rw (and_false (up % 15625 == 0) (nat_le (up / 15625) greatest) (lt-leb _ _ past)) refl

pub raised_too_far : (size power greatest : ℕ) → (size ≡ 0 → ⊥) → greatest ≤ unsigned_abs GRID → (11 < power) ⊎ (1000000000000 ≤ size) → divided greatest (size * 10 ^ power) 15625 ≡ None
raised_too_far size power greatest some small (inl high) =
    let many : 10 ^ 12 ≤ 10 ^ power = pow-le-pow_right {n = 10} (omega arith) high in
    let one : 1 * 10 ^ power ≤ size * 10 ^ power = mul-le-mul_right (10 ^ power) (omega (arith, some)) in
    too_far (size * 10 ^ power) greatest small (omega (arith, many, one))
raised_too_far size power greatest some small (inr high) =
    let one : size * 1 ≤ size * 10 ^ power = mul-le-mul_left size (one-le-pow power 10 (omega arith)) in
    too_far (size * 10 ^ power) greatest small (omega (arith, one, high))

-- a number of 128 bits has fewer than 35 noughts at its end
pub lowered_too_far : (size power greatest : ℕ) → (size ≡ 0 → ⊥) → size < 340282366920938463463374607431768211456 → 34 < power → divided greatest size (15625 * 10 ^ power) ≡ None
lowered_too_far size power greatest some fits high =
    let many : 10 ^ 35 ≤ 10 ^ power = pow-le-pow_right {n = 10} (omega arith) high in
    let less : size < 15625 * 10 ^ power = omega (arith, many, fits) in
    rw (mod-eq_of_lt less, ne_eqb size 0 some) refl

pub pow_below : (power : ℕ) → power ≤ 34 → 10 ^ power ≤ 10 ^ 34
pow_below power few = pow-le-pow_right {n = 10} (omega arith) few

pub pow_some : (power : ℕ) → 0 < 10 ^ power
pow_some power = omega (arith, one-le-pow power 10 (omega arith))

-- ---- of a decimal, by its power of ten in units of the last decimal

up_at : (z : ℤ) → pos 0 ≤ℤ z → (tens z ≡ 10 ^ unsigned_abs z) × (15625 * tens (neg_ℤ z) ≡ 15625)
up_at (pos zero) le = (refl, refl)
up_at (pos (suc n)) le = (refl, refl)
up_at (negsuc n) le = absurd (omega (arith, ints))

down_at : (z : ℤ) → z <ℤ pos 0 → (tens z ≡ 1) × (tens (neg_ℤ z) ≡ 10 ^ unsigned_abs z)
down_at (pos n) lt = absurd (omega (arith, ints))
down_at (negsuc n) lt = (refl, refl)

pub steps_up : (d : Dec) (k greatest m p : ℕ) (z : ℤ) → z ≡ d.scale +ℤ pos k → pos 0 ≤ℤ z → p ≡ unsigned_abs z → m ≡ unsigned_abs d.digits → divided greatest (m * 10 ^ p) 15625 ≡ steps_of k greatest d
steps_up d k greatest m p z is le size digits =
    let t = up_at z le in
    rw (← is, t.0, t.1, size, digits) refl

pub steps_down : (d : Dec) (k greatest m p : ℕ) (z : ℤ) → z ≡ d.scale +ℤ pos k → z <ℤ pos 0 → p ≡ unsigned_abs z → m ≡ unsigned_abs d.digits → divided greatest m (15625 * 10 ^ p) ≡ steps_of k greatest d
steps_down d k greatest m p z is lt size digits =
    let t = down_at z lt in
    let one : unsigned_abs d.digits * 1 ≡ unsigned_abs d.digits = omega arith in
    rw (← is, t.0, t.1, size, digits, one) refl

-- a power is kept in 64 bits
pub kept : (z : ℤ) → unsigned_abs z ≤ 2 ^ 32 → to_z w64 (of_z w64 z) ≡ z
kept z small = let f : SFits w64 z = omega (arith, ints, small) in to_z-of_z w64 z f
