-- Quotients rounded down, and to the nearest. Stands on Ring and Signs; serves the answers of `rounding`.
use Prim.Native.Nat.{ℕ, ◌+◌, ◌*◌, ◌/◌, ◌<◌, ◌≤◌}
use lib.IntN.{ℤ, pos, negsuc, ◌+ℤ◌, ◌-ℤ◌, ◌*ℤ◌, neg_ℤ}
use lib.Signed.{◌<ℤ◌, ◌≤ℤ◌}
use mathlib.Core.Path.{◌≡◌, refl, sym, ap, ◌∙◌, subst}
use mathlib.Core.List.{[], ◌∷◌}
use native.Mathlib.Omega.{arith}
use Rattle.std.proofs.lemmas.Int.{ints, to_z-of_z}
use Rattle.std.specs.Int.{int_div_euclid, IsIsqrt}
use mir.Val.{SFits, to_z, of_z}
use mir.Syntax.{w128}
use Rattle.grid_geom.specs.declared.rounding.TheConstants.{GREATEST_SQUARE, GREATEST_ROOT, GREATEST_DIVIDEND, GREATEST_DIVISOR}
use Rattle.grid_geom.specs.Bounds.{IsWithin}
use Rattle.grid_geom.proofs.Signs.{nn_mul, pos_mul, either}
use mathlib.Core.Logic.{◌⊎◌, inl, inr}
use Rattle.grid_geom.proofs.Ring.{var, num, ◌⊕◌, ◌⊖◌, ◌⊗◌, ring}

below : (a e : ℕ) → 0 < e → e * (a / e) ≤ a
below a e h = omega arith

above : (a e : ℕ) → 0 < e → a < e * (a / e + 1)
above a e h = omega arith

-- the quotient rounded down: the divisor times it is at most the number
pub floor_least : (z e : ℤ) → pos 0 <ℤ e → (e *ℤ int_div_euclid z e) ≤ℤ z
floor_least (pos a) (pos e) h = omega (arith, ints, below a e (omega (arith, ints)))
floor_least (pos a) (negsuc e) h = absurd (omega (arith, ints))
floor_least (negsuc a) (pos e) h = omega (arith, ints, above a e (omega (arith, ints)))
floor_least (negsuc a) (negsuc e) h = absurd (omega (arith, ints))

-- and the divisor times one more is above it
pub floor_greatest : (z e : ℤ) → pos 0 <ℤ e → z <ℤ (e *ℤ (int_div_euclid z e +ℤ pos 1))
floor_greatest (pos a) (pos e) h = omega (arith, ints, above a e (omega (arith, ints)))
floor_greatest (pos a) (negsuc e) h = absurd (omega (arith, ints))
floor_greatest (negsuc a) (pos e) h = subst (λ (m : ℤ). negsuc a <ℤ m) (sym (turned (a / e))) (raised (below a e (omega (arith, ints))))
  where
    turned : (q : ℕ) → pos e *ℤ (negsuc q +ℤ pos 1) ≡ pos 0 -ℤ pos e *ℤ pos q
    turned q = ap (λ (m : ℤ). pos e *ℤ m) (more q) ∙ ring (pos e ∷ pos q ∷ []) (var 0 ⊗ (num (pos 0) ⊖ var 1)) (num (pos 0) ⊖ var 0 ⊗ var 1) refl
      where
        more : (q : ℕ) → negsuc q +ℤ pos 1 ≡ pos 0 -ℤ pos q
        more q = omega (arith, ints)

    raised : {m : ℕ} → m ≤ a → negsuc a <ℤ (pos 0 -ℤ pos m)
    raised {m} k = omega (arith, ints)
floor_greatest (negsuc a) (negsuc e) h = absurd (omega (arith, ints))

-- what the code of `round_div` divides
pub record IsRounded (n d r : ℤ) : Type 0 where
  pub least : (pos 2 *ℤ d *ℤ r) ≤ℤ (pos 2 *ℤ n +ℤ d)
  pub greatest : (pos 2 *ℤ n +ℤ d) <ℤ (pos 2 *ℤ d *ℤ (r +ℤ pos 1))

pub rounded : (n d r : ℤ) → IsWithin GREATEST_DIVIDEND n → pos 0 <ℤ d → d ≤ℤ GREATEST_DIVISOR →
    r ≡ int_div_euclid (to_z w128 (of_z w128 (to_z w128 (of_z w128 (pos 2 *ℤ to_z w128 (of_z w128 n))) +ℤ to_z w128 (of_z w128 d)))) (to_z w128 (of_z w128 (pos 2 *ℤ to_z w128 (of_z w128 d)))) → IsRounded n d r
rounded n d r hn hd hs e = record {
  least = subst (λ (q : ℤ). (pos 2 *ℤ d *ℤ q) ≤ℤ (pos 2 *ℤ n +ℤ d)) (sym plain) (floor_least (pos 2 *ℤ n +ℤ d) (pos 2 *ℤ d) (omega (arith, ints)));
  greatest = subst (λ (q : ℤ). (pos 2 *ℤ n +ℤ d) <ℤ (pos 2 *ℤ d *ℤ (q +ℤ pos 1))) (sym plain) (floor_greatest (pos 2 *ℤ n +ℤ d) (pos 2 *ℤ d) (omega (arith, ints)));
}
  where
    plain : r ≡ int_div_euclid (pos 2 *ℤ n +ℤ d) (pos 2 *ℤ d)
    plain = let fn : SFits w128 n = omega (arith, ints) in let fd : SFits w128 d = omega (arith, ints) in let fm : SFits w128 (pos 2 *ℤ n) = omega (arith, ints) in let fe : SFits w128 (pos 2 *ℤ d) = omega (arith, ints) in let fs : SFits w128 (pos 2 *ℤ n +ℤ d) = omega (arith, ints) in simp to_z-of_z at e

-- ---- facts for callers
-- the quotient is within m where the number is within m times the divisor
pub rounded_within : (n d r m : ℤ) → pos 0 <ℤ d → IsRounded n d r → (pos 0 -ℤ m *ℤ d) ≤ℤ n → n ≤ℤ (m *ℤ d) → IsWithin m r
rounded_within n d r m hd h low high = record { least = not_lower (either (neg_ℤ m) r); greatest = not_higher (either r m) }
  where
    twice : pos 2 *ℤ d *ℤ r ≡ pos 2 *ℤ (d *ℤ r)
    twice = ring (d ∷ r ∷ []) (num (pos 2) ⊗ var 0 ⊗ var 1) (num (pos 2) ⊗ (var 0 ⊗ var 1)) refl

    twice_more : pos 2 *ℤ d *ℤ (r +ℤ pos 1) ≡ pos 2 *ℤ (d *ℤ r) +ℤ pos 2 *ℤ d
    twice_more = ring (d ∷ r ∷ []) (num (pos 2) ⊗ var 0 ⊗ (var 1 ⊕ num (pos 1))) (num (pos 2) ⊗ (var 0 ⊗ var 1) ⊕ num (pos 2) ⊗ var 0) refl

    above : pos 0 ≤ℤ (r -ℤ m -ℤ pos 1) → ⊥
    above i = omega (arith, ints, h.least, high, twice, product, nn_mul d (r -ℤ m -ℤ pos 1) (omega (arith, ints)) i)
      where
        product : d *ℤ (r -ℤ m -ℤ pos 1) ≡ d *ℤ r -ℤ m *ℤ d -ℤ d
        product = ring (d ∷ r ∷ m ∷ []) (var 0 ⊗ (var 1 ⊖ var 2 ⊖ num (pos 1))) (var 0 ⊗ var 1 ⊖ var 2 ⊗ var 0 ⊖ var 0) refl

    below_it : pos 0 ≤ℤ (pos 0 -ℤ m -ℤ r -ℤ pos 1) → ⊥
    below_it i = omega (arith, ints, h.greatest, low, twice_more, product, nn_mul d (pos 0 -ℤ m -ℤ r -ℤ pos 1) (omega (arith, ints)) i)
      where
        product : d *ℤ (pos 0 -ℤ m -ℤ r -ℤ pos 1) ≡ pos 0 -ℤ m *ℤ d -ℤ d *ℤ r -ℤ d
        product = ring (d ∷ r ∷ m ∷ []) (var 0 ⊗ (num (pos 0) ⊖ var 2 ⊖ var 1 ⊖ num (pos 1))) (num (pos 0) ⊖ var 2 ⊗ var 0 ⊖ var 0 ⊗ var 1 ⊖ var 0) refl

    not_higher : (r ≤ℤ m) ⊎ (m <ℤ r) → r ≤ℤ m
    not_higher (inl i) = i
    not_higher (inr i) = absurd (above (omega (arith, ints, i)))

    not_lower : (neg_ℤ m ≤ℤ r) ⊎ (r <ℤ neg_ℤ m) → neg_ℤ m ≤ℤ r
    not_lower (inl i) = i
    not_lower (inr i) = absurd (below_it (omega (arith, ints, i)))

-- the root of a number up to 2^100 is at most 2^50
pub root_small : (n r : ℤ) → pos 0 ≤ℤ r → (r *ℤ r) ≤ℤ n → n ≤ℤ GREATEST_SQUARE → r ≤ℤ GREATEST_ROOT
root_small n r h j k = elim (either r GREATEST_ROOT) [ inl i ↦ i | inr i ↦ absurd (large (pos_mul (r -ℤ GREATEST_ROOT) (r +ℤ GREATEST_ROOT) (omega (arith, ints)) (omega (arith, ints)))) ]
  where
    product : (r -ℤ GREATEST_ROOT) *ℤ (r +ℤ GREATEST_ROOT) ≡ r *ℤ r -ℤ GREATEST_SQUARE
    product = ring (r ∷ []) ((var 0 ⊖ num GREATEST_ROOT) ⊗ (var 0 ⊕ num GREATEST_ROOT)) (var 0 ⊗ var 0 ⊖ num GREATEST_SQUARE) refl

    large : pos 0 <ℤ ((r -ℤ GREATEST_ROOT) *ℤ (r +ℤ GREATEST_ROOT)) → ⊥
    large p = below_zero (subst (λ (z : ℤ). pos 0 <ℤ z) product p)
      where
        below_zero : pos 0 <ℤ (r *ℤ r -ℤ GREATEST_SQUARE) → ⊥
        below_zero p = omega (arith, ints)

-- the code's root is that small
pub root_cast : (n r : ℤ) → SFits w128 r → IsIsqrt n r → pos 0 ≤ℤ n → n ≤ℤ GREATEST_SQUARE → to_z w128 (of_z w128 r) ≤ℤ GREATEST_ROOT
root_cast (pos a) r f h j k = simp to_z-of_z (subst (λ (z : ℤ). z ≤ℤ GREATEST_ROOT) (sym h.1) (root_small (pos a) (pos h.0) (omega (arith, ints)) (square h.2) k))
  where
    square : {m : ℕ} → m ≤ a → pos m ≤ℤ pos a
    square {m} i = omega (arith, ints)
root_cast (negsuc a) r f h j k = absurd (omega (arith, ints))
