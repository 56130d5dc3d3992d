-- Bounds of sums, and casts of numbers that fit. Stands on grid_geom's Signs and Within.
use lib.IntN.{ℤ, pos, ◌+ℤ◌, ◌-ℤ◌, ◌*ℤ◌}
use lib.Signed.{◌<ℤ◌, ◌≤ℤ◌}
use mathlib.Core.Path.{◌≡◌, refl}
use mathlib.Core.List.{[], ◌∷◌}
use mathlib.Core.Logic.{inl, inr}
use native.Mathlib.Omega.{arith}
use Rattle.std.proofs.lemmas.Int.{ints}
use mir.Val.{SFits}
use mir.Syntax.{w64, w128}
use Rattle.grid_geom.specs.Bounds.{IsWithin}
use Rattle.grid_geom.proofs.Ring.{var, num, ◌⊕◌, ◌⊖◌, ◌⊗◌, ring}
use Rattle.grid_geom.proofs.Signs.{nn_mul, either}

pub within_add : (m n a b : ℤ) → IsWithin m a → IsWithin n b → IsWithin (m +ℤ n) (a +ℤ b)
within_add m n a b ha hb = record { least = omega (arith, ints, ha.least, hb.least); greatest = omega (arith, ints, ha.greatest, hb.greatest) }

pub within_sub : (m n a b : ℤ) → IsWithin m a → IsWithin n b → IsWithin (m +ℤ n) (a -ℤ b)
within_sub m n a b ha hb = record { least = omega (arith, ints, ha.least, hb.greatest); greatest = omega (arith, ints, ha.greatest, hb.least) }

pub within_more : (m n a : ℤ) → m ≤ℤ n → IsWithin m a → IsWithin n a
within_more m n a h ha = record { least = omega (arith, ints, h, ha.least); greatest = omega (arith, ints, h, ha.greatest) }

pub fits64 : (m z : ℤ) → m ≤ℤ pos 9223372036854775807 → IsWithin m z → SFits w64 z
fits64 m z h hz = omega (arith, ints, h, hz.least, hz.greatest)

pub fits128 : (m z : ℤ) → m ≤ℤ pos 170141183460469231731687303715884105727 → IsWithin m z → SFits w128 z
fits128 m z h hz = omega (arith, ints, h, hz.least, hz.greatest)

-- a number whose square is less than that of m + 1 is at most m
pub root_at_most : (z r m : ℤ) → pos 0 ≤ℤ r → pos 0 ≤ℤ m → (r *ℤ r) ≤ℤ z → z <ℤ ((m +ℤ pos 1) *ℤ (m +ℤ pos 1)) → r ≤ℤ m
root_at_most z r m hr hm h j = elim (either r m) [ inl i ↦ i | inr i ↦ absurd (omega (arith, ints, h, j, product, nn_mul (r -ℤ m -ℤ pos 1) (r +ℤ m +ℤ pos 1) (omega (arith, ints)) (omega (arith, ints)))) ]
  where
    product : (r -ℤ m -ℤ pos 1) *ℤ (r +ℤ m +ℤ pos 1) ≡ r *ℤ r -ℤ (m +ℤ pos 1) *ℤ (m +ℤ pos 1)
    product = ring (r ∷ m ∷ []) ((var 0 ⊖ var 1 ⊖ num (pos 1)) ⊗ (var 0 ⊕ var 1 ⊕ num (pos 1))) (var 0 ⊗ var 0 ⊖ (var 1 ⊕ num (pos 1)) ⊗ (var 1 ⊕ num (pos 1))) refl
