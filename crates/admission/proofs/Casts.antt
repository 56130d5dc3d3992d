-- A number of 64 bits and one of 128 compared, with the casts gone.
use lib.IntN.{ℤ, pos, ◌+ℤ◌}
use mathlib.Core.Path.{◌≡◌, sym, ap, ◌∙◌, subst}
use mathlib.Core.Bool.{true}
use native.Mathlib.Omega.{arith}
use Rattle.std.specs.Prelude.{ℕ, nat_eq}
use Rattle.std.proofs.lemmas.Int.{ints, to_z-of_z}
use mir.Val.{SFits, to_z, of_z}
use mir.Syntax.{w64, w128}

wide : (w : ℤ) → SFits w64 w → SFits w128 w
wide w f = let h = f.sfits in record { sfits = omega (arith, h) }

wider : (w : ℤ) → SFits w64 w → SFits w128 (w +ℤ pos 1)
wider w f = let h = f.sfits in omega (arith, ints, h)

eq_sound : (m n : ℕ) → nat_eq m n ≡ true → m ≡ n
eq_sound m n h = grind arith

eq_self : (n : ℕ) → nat_eq n n ≡ true
eq_self n = grind arith

pub same_sum : (a w x y : ℤ) → SFits w128 a → SFits w64 w → a ≡ x → w ≡ y →
    (nat_eq (of_z w128 a) (of_z w128 (to_z w128 (of_z w128 (to_z w64 (of_z w64 w))) +ℤ pos 1)) ≡ true → x ≡ y +ℤ pos 1) × (x ≡ y +ℤ pos 1 → nat_eq (of_z w128 a) (of_z w128 (to_z w128 (of_z w128 (to_z w64 (of_z w64 w))) +ℤ pos 1)) ≡ true)
same_sum a w x y fa fw e f = rw (cast) (
  λ t. sym e ∙ sym (to_z-of_z w128 a fa) ∙ ap (to_z w128) (eq_sound (of_z w128 a) (of_z w128 (w +ℤ pos 1)) t) ∙ to_z-of_z w128 (w +ℤ pos 1) (wider w fw) ∙ ap (λ (z : ℤ). z +ℤ pos 1) f,
  λ h. subst (λ (z : ℤ). nat_eq (of_z w128 a) (of_z w128 z) ≡ true) (e ∙ h ∙ ap (λ (z : ℤ). z +ℤ pos 1) (sym f)) (eq_self (of_z w128 a)),
)
  where
    cast : to_z w128 (of_z w128 (to_z w64 (of_z w64 w))) ≡ w
    cast = ap (λ (z : ℤ). to_z w128 (of_z w128 z)) (to_z-of_z w64 w fw) ∙ to_z-of_z w128 w (wide w fw)
