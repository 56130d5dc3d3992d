-- Small steps on what the code compares.
use lib.IntN.{ℤ, pos}
use lib.Signed.{◌<ℤ◌, ◌≤ℤ◌, lt_z}
use mathlib.Core.Path.{◌≡◌, refl, subst, ◌∙◌}
use mathlib.Core.Bool.{Bool, true, false}
use native.Mathlib.Omega.{arith}
use Rattle.std.proofs.lemmas.Int.{ints}
use Rattle.std.specs.Prelude.{ℕ, Option, Some, None, is_some, not}

pub clash : {A : Type 0} {b : Bool} → b ≡ false → b ≡ true → A
clash e f = absurd (cc)

pub none_is_one : pos 0 ≡ pos 1 → ⊥
none_is_one e = omega (arith, ints, e)

pub some_number : (o : Option ℕ) (b : Bool) → is_some o ≡ not b → b ≡ false → (n : ℕ) × (o ≡ Some n)
some_number None b e f = absurd (cc)
some_number (Some n) b e f = (n, refl)

less_z : (a b : ℤ) → lt_z a b ≡ true → a <ℤ b
less_z a b e = grind (arith, ints)

not_less_z : (a b : ℤ) → lt_z a b ≡ false → b ≤ℤ a
not_less_z a b e = grind (arith, ints)

-- numbers in other words are compared alike
pub less : {x a y b z : ℤ} → x ≡ a → y ≡ b → b ≡ z → lt_z x y ≡ true → x <ℤ z
less {x} {a} {y} {b} {z} e f g h = subst (λ (k : ℤ). x <ℤ k) (f ∙ g) (less_z x y h)

pub not_less : {x a y b z : ℤ} → x ≡ a → y ≡ b → b ≡ z → lt_z x y ≡ false → z ≤ℤ a
not_less {x} {a} {y} {b} {z} e f g h = subst (λ (k : ℤ). z ≤ℤ k) e (subst (λ (k : ℤ). k ≤ℤ x) (f ∙ g) (not_less_z x y h))
