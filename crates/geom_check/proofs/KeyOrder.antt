-- Risers that pass a strip have keys, and the keys rise from left to right.
use lib.IntN.{ℤ, pos, negsuc, ◌+ℤ◌, ◌-ℤ◌, ◌*ℤ◌}
use lib.Signed.{◌<ℤ◌, ◌≤ℤ◌}
use mathlib.Core.Path.{◌≡◌, refl, sym, subst}
use mathlib.Core.Logic.{inl, inr}
use native.Mathlib.Omega.{arith}
use Prim.Native.Nat.{ℕ, ◌+◌, ◌*◌, ◌/◌, ◌<◌, ◌≤◌}
use Rattle.std.proofs.lemmas.Int.{ints}
use Rattle.std.proofs.lemmas.Bool.{cases_lt}
use Rattle.std.proofs.Math.Nat.{div-mul-le_self, lt-div-mul-add, mul-le-mul_right, mul-lt-mul_of_pos_right}
use Rattle.grid_geom.proofs.Signs.{nn_mul, either}
use Rattle.geom_check.specs.declared.risers.Riser.{Riser}
use Rattle.geom_check.specs.RiserOrder.{over, under, IsWest, IsPassing, IsKey, IsRiserOnGrid}
use Rattle.geom_check.proofs.RiserOrder.{keys_ordered}
use Rattle.geom_check.specs.declared.limits.TheConstants.{MOST_UNDER, PARTS}
use Rattle.grid_geom.specs.declared.TheConstants.{GRID}

place_order : (m n p q k l : ℕ) → 0 < n → k ≡ m * PARTS / n → l ≡ p * PARTS / q → 0 < q → k < l → p * n ≤ m * q → ⊥
place_order m n p q k l hn ek el hq h w =
    let a : m * PARTS < k * n + n = subst (λ (z : ℕ). m * PARTS < z * n + n) (sym ek) (lt-div-mul-add {a = m * PARTS} {b = n} hn) in
    let b : l * q ≤ p * PARTS = subst (λ (z : ℕ). z * q ≤ p * PARTS) (sym el) (div-mul-le_self (p * PARTS) q) in
    let c : m * PARTS * q < (k * n + n) * q = mul-lt-mul_of_pos_right a hq in
    let d : l * q * n ≤ p * PARTS * n = mul-le-mul_right n b in
    let g : k + 1 ≤ l = omega (arith, h) in
    let e : (k + 1) * n * q ≤ l * n * q = mul-le-mul_right q (mul-le-mul_right n g) in
    omega (arith, c, d, e, w)

-- a greater key is that of a place further right
pub west_by_keys : (y : ℤ) (r s : Riser) (k l : ℕ) → IsKey y r k → IsKey y s l → k < l → IsWest y r s
west_by_keys y r s k l a b h = elim (cases_lt (a.over_is * b.under_is) (b.over_is * a.under_is)) [
  | inr w ↦ absurd (place_order a.over_is a.under_is b.over_is b.under_is k l a.positive a.key_is b.key_is b.positive h w)
  | inl w ↦ subst (λ (z : ℤ). (z *ℤ under s) <ℤ (over y s *ℤ under r)) a.same_over
      (subst (λ (z : ℤ). (pos a.over_is *ℤ z) <ℤ (over y s *ℤ under r)) b.same_under
      (subst (λ (z : ℤ). (pos a.over_is *ℤ pos b.under_is) <ℤ (z *ℤ under r)) b.same_over
      (subst (λ (z : ℤ). (pos a.over_is *ℤ pos b.under_is) <ℤ (pos b.over_is *ℤ z)) a.same_under (up (a.over_is * b.under_is) (b.over_is * a.under_is) a.over_is b.under_is b.over_is a.under_is refl refl w))))
]
  where
    up : (m n a b c d : ℕ) → m ≡ a * b → n ≡ c * d → m < n → (pos a *ℤ pos b) <ℤ (pos c *ℤ pos d)
    up m n a b c d e f h = omega (arith, ints)

-- a place further right has a greater key
pub keys_by_west : (y : ℤ) (r s : Riser) (k l : ℕ) → IsKey y r k → IsKey y s l → IsWest y r s → k < l
keys_by_west y r s k l a b w = elim (cases_lt k l) [ inl h ↦ h | inr h ↦ absurd (keys_ordered y s r l k b a h w) ]

-- a place with a key that is not greater isn't further right
pub not_west : (y : ℤ) (r s : Riser) (k l : ℕ) → IsKey y r k → IsKey y s l → k ≤ l → (over y r *ℤ under s) ≤ℤ (over y s *ℤ under r)
not_west y r s k l a b h = elim (either (over y r *ℤ under s) (over y s *ℤ under r)) [ inl n ↦ n | inr w ↦ absurd (keys_ordered y r s k l a b h w) ]

pub number : (z : ℤ) → pos 0 ≤ℤ z → (n : ℕ) × (pos n ≡ z)
number (pos n) h = (n, refl)
number (negsuc n) h = absurd (omega (arith, ints))

-- a riser of the grid that passes a strip has a key
pub has_key : (low high : ℤ) (r : Riser) → low <ℤ high → IsRiserOnGrid r → IsPassing low high r → (k : ℕ) × IsKey (low +ℤ high) r k
has_key low high r h grid p = (
  o.0 * PARTS / u.0,
  record {
    over_is = o.0;
    under_is = u.0;
    same_over = o.1;
    same_under = u.1;
    positive = above u.0 (under r) u.1 (omega (arith, ints, h, p.from_low, p.to_high));
    small = most u.0 (under r) u.1 (omega (arith, ints, grid.b.y_within.greatest, grid.a.y_within.least));
    key_is = refl;
  },
)
  where
    o : (n : ℕ) × (pos n ≡ over (low +ℤ high) r)
    o = number (over (low +ℤ high) r) (both _ _ (nn_mul (r.a.x +ℤ GRID) (pos 2 *ℤ r.b.y -ℤ (low +ℤ high)) (omega (arith, ints, grid.a.x_within.least)) (omega (arith, ints, h, p.to_high)))
        (nn_mul (r.b.x +ℤ GRID) ((low +ℤ high) -ℤ pos 2 *ℤ r.a.y) (omega (arith, ints, grid.b.x_within.least)) (omega (arith, ints, h, p.from_low))))
      where
        both : (m n : ℤ) → pos 0 ≤ℤ m → pos 0 ≤ℤ n → pos 0 ≤ℤ (m +ℤ n)
        both m n h j = omega (arith, ints)

    u : (n : ℕ) × (pos n ≡ under r)
    u = number (under r) (omega (arith, ints, h, p.from_low, p.to_high))

    above : (n : ℕ) (z : ℤ) → pos n ≡ z → pos 0 <ℤ z → 0 < n
    above n z e h = omega (arith, ints)

    most : (n : ℕ) (z : ℤ) → pos n ≡ z → z ≤ℤ pos MOST_UNDER → n ≤ MOST_UNDER
    most n z e h = omega (arith, ints)
