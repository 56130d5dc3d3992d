-- A rounded quotient is the nearest whole number; there is one. Stands on grid_geom's Quotients.
use lib.IntN.{ℤ, pos, ◌+ℤ◌, ◌-ℤ◌, ◌*ℤ◌}
use lib.Signed.{◌<ℤ◌, ◌≤ℤ◌}
use mathlib.Core.Path.{◌≡◌, refl}
use mathlib.Core.List.{[], ◌∷◌}
use native.Mathlib.Omega.{arith}
use Rattle.std.specs.Int.{int_div_euclid}
use Rattle.std.proofs.lemmas.Int.{ints}
use Rattle.grid_geom.proofs.Ring.{var, num, ◌⊕◌, ◌⊖◌, ◌⊗◌, ring}
use Rattle.grid_geom.proofs.Signs.{pos_mul, lt_cancel, le_cancel, le_mul}
use Rattle.grid_geom.proofs.Quotients.{floor_least, floor_greatest, IsRounded}
use Rattle.rule_maps.specs.Fractions.{Fraction, IsFraction, AreEqual, nearest, IsNearest}

-- r d is at most n, and (r + 1) d is above it
pub record IsFloor (n d r : ℤ) : Type 0 where
  pub least : (d *ℤ r) ≤ℤ n
  pub greatest : n <ℤ (d *ℤ (r +ℤ pos 1))

pub one_floor : (n d r s : ℤ) → pos 0 <ℤ d → IsFloor n d r → IsFloor n d s → r ≡ s
one_floor n d r s hd h j = omega (arith, ints, below r s h j, below s r j h)
  where
    below : (r s : ℤ) → IsFloor n d r → IsFloor n d s → r <ℤ (s +ℤ pos 1)
    below r s h j = lt_cancel r (s +ℤ pos 1) d hd (omega (arith, ints, h.least, j.greatest))

pub floor_is : (n d : ℤ) → pos 0 <ℤ d → IsFloor n d (int_div_euclid n d)
floor_is n d hd = record { least = floor_least n d hd; greatest = floor_greatest n d hd }

lt_mul : (u w k : ℤ) → pos 0 <ℤ k → u <ℤ w → (u *ℤ k) <ℤ (w *ℤ k)
lt_mul u w k h j = omega (arith, ints, ring (u ∷ w ∷ k ∷ []) ((var 1 ⊖ var 0) ⊗ var 2) (var 1 ⊗ var 2 ⊖ var 0 ⊗ var 2) refl, pos_mul (w -ℤ u) k (omega (arith, ints, j)) h)

-- the code's rounded quotient
pub nearest_is : (x : Fraction) (r : ℤ) → pos 0 <ℤ x.bottom → IsRounded x.top x.bottom r → r ≡ nearest x
nearest_is x r hb h = one_floor (pos 2 *ℤ x.top +ℤ x.bottom) (pos 2 *ℤ x.bottom) r (nearest x) (omega (arith, ints, hb)) (record { least = h.least; greatest = h.greatest }) (floor_is (pos 2 *ℤ x.top +ℤ x.bottom) (pos 2 *ℤ x.bottom) (omega (arith, ints, hb)))

-- it is at most half away, and the greater where two are
pub nearest_near : (x : Fraction) → IsFraction x → IsNearest x (nearest x)
nearest_near x hx = record { not_more = low (nearest x) (floor_is (pos 2 *ℤ x.top +ℤ x.bottom) (pos 2 *ℤ x.bottom) (omega (arith, ints, hx.positive))).least; not_less = high (nearest x) (floor_is (pos 2 *ℤ x.top +ℤ x.bottom) (pos 2 *ℤ x.bottom) (omega (arith, ints, hx.positive))).greatest }
  where
    low : (n : ℤ) → (pos 2 *ℤ x.bottom *ℤ n) ≤ℤ (pos 2 *ℤ x.top +ℤ x.bottom) → (pos 2 *ℤ n *ℤ x.bottom -ℤ x.bottom) ≤ℤ (pos 2 *ℤ x.top)
    low n h = omega (arith, ints, h, ring (x.bottom ∷ n ∷ []) (num (pos 2) ⊗ var 0 ⊗ var 1) (num (pos 2) ⊗ var 1 ⊗ var 0) refl)

    high : (n : ℤ) → (pos 2 *ℤ x.top +ℤ x.bottom) <ℤ (pos 2 *ℤ x.bottom *ℤ (n +ℤ pos 1)) → (pos 2 *ℤ x.top) <ℤ (pos 2 *ℤ n *ℤ x.bottom +ℤ x.bottom)
    high n h = omega (arith, ints, h, ring (x.bottom ∷ n ∷ []) (num (pos 2) ⊗ var 0 ⊗ (var 1 ⊕ num (pos 1))) (num (pos 2) ⊗ var 1 ⊗ var 0 ⊕ num (pos 2) ⊗ var 0) refl)

floor_of_near : (x : Fraction) (n : ℤ) → IsNearest x n → IsFloor (pos 2 *ℤ x.top +ℤ x.bottom) (pos 2 *ℤ x.bottom) n
floor_of_near x n h = record {
  least = omega (arith, ints, h.not_more, ring (x.bottom ∷ n ∷ []) (num (pos 2) ⊗ var 0 ⊗ var 1) (num (pos 2) ⊗ var 1 ⊗ var 0) refl);
  greatest = omega (arith, ints, h.not_less, ring (x.bottom ∷ n ∷ []) (num (pos 2) ⊗ var 0 ⊗ (var 1 ⊕ num (pos 1))) (num (pos 2) ⊗ var 1 ⊗ var 0 ⊕ num (pos 2) ⊗ var 0) refl);
}

pub one_nearest : (x : Fraction) (n m : ℤ) → IsFraction x → IsNearest x n → IsNearest x m → n ≡ m
one_nearest x n m hx h j = one_floor (pos 2 *ℤ x.top +ℤ x.bottom) (pos 2 *ℤ x.bottom) n m (omega (arith, ints, hx.positive)) (floor_of_near x n h) (floor_of_near x m j)

-- equal fractions have one nearest number
pub nearest_equal : (x y : Fraction) → IsFraction x → IsFraction y → AreEqual x y → nearest x ≡ nearest y
nearest_equal x y hx hy e = one_nearest y (nearest x) (nearest y) hy (carried (nearest x) (nearest_near x hx)) (nearest_near y hy)
  where
    carried : (n : ℤ) → IsNearest x n → IsNearest y n
    carried n h = record {
      not_more = le_cancel (pos 2 *ℤ n *ℤ y.bottom -ℤ y.bottom) (pos 2 *ℤ y.top) x.bottom hx.positive (omega (arith, ints, le_mul (pos 2 *ℤ n *ℤ x.bottom -ℤ x.bottom) (pos 2 *ℤ x.top) y.bottom hy.positive h.not_more, e.crossed, low, double_x, double_y));
      not_less = lt_cancel (pos 2 *ℤ y.top) (pos 2 *ℤ n *ℤ y.bottom +ℤ y.bottom) x.bottom hx.positive (omega (arith, ints, lt_mul (pos 2 *ℤ x.top) (pos 2 *ℤ n *ℤ x.bottom +ℤ x.bottom) y.bottom hy.positive h.not_less, e.crossed, high, double_x, double_y));
    }
      where
        low : (pos 2 *ℤ n *ℤ y.bottom -ℤ y.bottom) *ℤ x.bottom ≡ (pos 2 *ℤ n *ℤ x.bottom -ℤ x.bottom) *ℤ y.bottom
        low = ring (n ∷ x.bottom ∷ y.bottom ∷ []) ((num (pos 2) ⊗ var 0 ⊗ var 2 ⊖ var 2) ⊗ var 1) ((num (pos 2) ⊗ var 0 ⊗ var 1 ⊖ var 1) ⊗ var 2) refl

        high : (pos 2 *ℤ n *ℤ y.bottom +ℤ y.bottom) *ℤ x.bottom ≡ (pos 2 *ℤ n *ℤ x.bottom +ℤ x.bottom) *ℤ y.bottom
        high = ring (n ∷ x.bottom ∷ y.bottom ∷ []) ((num (pos 2) ⊗ var 0 ⊗ var 2 ⊕ var 2) ⊗ var 1) ((num (pos 2) ⊗ var 0 ⊗ var 1 ⊕ var 1) ⊗ var 2) refl

        double_x : (pos 2 *ℤ x.top) *ℤ y.bottom ≡ pos 2 *ℤ (x.top *ℤ y.bottom)
        double_x = ring (x.top ∷ y.bottom ∷ []) (num (pos 2) ⊗ var 0 ⊗ var 1) (num (pos 2) ⊗ (var 0 ⊗ var 1)) refl

        double_y : (pos 2 *ℤ y.top) *ℤ x.bottom ≡ pos 2 *ℤ (y.top *ℤ x.bottom)
        double_y = ring (y.top ∷ x.bottom ∷ []) (num (pos 2) ⊗ var 0 ⊗ var 1) (num (pos 2) ⊗ (var 0 ⊗ var 1)) refl
