-- The ring laws of whole numbers that the library does not have: associativity, distributivity, one.
use lib.IntN.{ℤ, pos, ◌+ℤ◌, ◌*ℤ◌}
use Prim.Native.Nat.{ℕ, ◌*◌}
use mathlib.Core.Path.{◌≡◌, ap}
use native.Mathlib.Omega.{arith}
use Rattle.std.proofs.lemmas.Int.{ints}
use borrow.Author.Differences.{up, down, sum_is_lem, product_is}

pub mul_add : (a b c : ℤ) → (a +ℤ b) *ℤ c ≡ a *ℤ c +ℤ b *ℤ c
mul_add a b c = omega (arith, ints, ap (λ (z : ℕ). z * up c) (sum_is_lem a b), ap (λ (z : ℕ). z * down c) (sum_is_lem a b))

pub mul_assoc : (a b c : ℤ) → (a *ℤ b) *ℤ c ≡ a *ℤ (b *ℤ c)
mul_assoc a b c = omega (
  arith,
  ints,
  ap (λ (z : ℕ). z * up c) (product_is a b).0,
  ap (λ (z : ℕ). z * down c) (product_is a b).0,
  ap (λ (z : ℕ). z * up c) (product_is a b).1,
  ap (λ (z : ℕ). z * down c) (product_is a b).1,
  ap (λ (z : ℕ). up a * z) (product_is b c).0,
  ap (λ (z : ℕ). down a * z) (product_is b c).0,
  ap (λ (z : ℕ). up a * z) (product_is b c).1,
  ap (λ (z : ℕ). down a * z) (product_is b c).1,
)

pub add_assoc : (a b c : ℤ) → (a +ℤ b) +ℤ c ≡ a +ℤ (b +ℤ c)
add_assoc a b c = omega (arith, ints)

pub mul_comm : (a b : ℤ) → a *ℤ b ≡ b *ℤ a
mul_comm a b = omega (arith, ints)

pub one_mul : (a : ℤ) → pos 1 *ℤ a ≡ a
one_mul a = omega (arith, ints)
