-- Boxes that meet, as a test and as a fact; and a box that meets none of the boxes that lie in a box that it misses.
use native.Mathlib.Omega.{arith}
use Rattle.std.proofs.lemmas.Int.{ints}
use Rattle.std.specs.Prelude.{◌≡◌, Bool, true, false, ◌&&◌, refl}
use Rattle.grid_geom.specs.declared.Bounds.{Bounds}
use Rattle.grid_geom.specs.Boxes.{DoBoundsMeet}
use Rattle.grid_geom.proofs.Booleans.{le_true, true_le}
use Rattle.digital_tree.specs.Boxes.{does_meet, IsWithin}

all_true : (p q r s : Bool) → p ≡ true → q ≡ true → r ≡ true → s ≡ true → (p && q && r && s) ≡ true
all_true p q r s a b c d = rw (a, b, c, d) refl

pub meeting : (a b : Bounds) → DoBoundsMeet a b → does_meet a b ≡ true
meeting a b h = all_true _ _ _ _ (true_le _ _ h.first_column) (true_le _ _ h.second_column) (true_le _ _ h.first_row) (true_le _ _ h.second_row)

record Four (p q r s : Bool) : Type 0 where
  first : p ≡ true
  second : q ≡ true
  third : r ≡ true
  fourth : s ≡ true

four : (p q r s : Bool) → (p && q && r && s) ≡ true → Four p q r s
four true true true true e = record { first = refl; second = refl; third = refl; fourth = refl }
four false q r s e = absurd cc
four true false r s e = absurd cc
four true true false s e = absurd cc
four true true true false e = absurd cc

pub met : (a b : Bounds) → does_meet a b ≡ true → DoBoundsMeet a b
met a b e =
    let h = four _ _ _ _ e in
    record { first_column = le_true _ _ h.first; second_column = le_true _ _ h.second; first_row = le_true _ _ h.third; second_row = le_true _ _ h.fourth }

untrue : (b : Bool) → (b ≡ true → ⊥) → b ≡ false
untrue true h = absurd (h refl)
untrue false h = refl

wider : (inner outer b : Bounds) → IsWithin inner outer → DoBoundsMeet inner b → DoBoundsMeet outer b
wider inner outer b h m =
    let m1 = m.first_column in let m2 = m.second_column in let m3 = m.first_row in let m4 = m.second_row in
    let h1 = h.left in let h2 = h.right in let h3 = h.below in let h4 = h.above in
    record { first_column = omega (arith, ints); second_column = omega (arith, ints); first_row = omega (arith, ints); second_row = omega (arith, ints) }

-- a box that lies in one that b misses is missed by b
pub missed : (inner outer b : Bounds) → IsWithin inner outer → (DoBoundsMeet outer b → ⊥) → does_meet inner b ≡ false
missed inner outer b h miss = untrue (does_meet inner b) (λ e. miss (wider inner outer b h (met inner b e)))

pub within_self : (b : Bounds) → IsWithin b b
within_self b = record { left = omega (arith, ints); right = omega (arith, ints); below = omega (arith, ints); above = omega (arith, ints) }

pub within_more : (a b c : Bounds) → IsWithin a b → IsWithin b c → IsWithin a c
within_more a b c h k =
    let h1 = h.left in let h2 = h.right in let h3 = h.below in let h4 = h.above in
    let k1 = k.left in let k2 = k.right in let k3 = k.below in let k4 = k.above in
    record { left = omega (arith, ints); right = omega (arith, ints); below = omega (arith, ints); above = omega (arith, ints) }
