-- Two edges of a lattice tangle only where they are one: edges across and upwards, each one step long.
use Rattle.std.proofs.Common.{◌≡◌, ℕ, ◌+◌, ◌*◌, ◌<◌, ◌≤◌, ◌⊎◌, [], ◌∷◌, inl, inr, sym, ◌∙◌, ap, refl, subst, arith}
use lib.IntN.{ℤ, pos, ◌-ℤ◌, ◌*ℤ◌}
use lib.Signed.{◌<ℤ◌, ◌≤ℤ◌}
use Rattle.std.proofs.lemmas.Int.{ints}
use Rattle.std.proofs.Math.Nat.{mul-le-mul_right, le_of_mul-le-mul_right, eq_of_mul-eq-mul_right}
use Rattle.std.proofs.lemmas.Bool.{cases_lt}
use Rattle.std.specs.Int.{int_max, int_min}
use Rattle.grid_geom.specs.declared.Point.{Point}
use Rattle.grid_geom.specs.Plane.{orient}
use Rattle.grid_geom.specs.Sides.{IsOnOpen, DoCross, DoTangle, same_ends, swapped_ends, first_start, first_end, second_start, second_end, crossing}
use Rattle.grid_geom.proofs.Ring.{var, ◌⊖◌, ◌⊗◌, ring}
use Rattle.grid_geom.proofs.Signs.{nn_mul, np_mul, zero_factor, either, nn_np_mul}
use Rattle.sample.proofs.Coordinates.{lattice}

-- ---- numbers of a lattice
pub lattice_le : (u i x : ℕ) → 0 < u → pos (i * u) ≤ℤ pos (x * u) → i ≤ x
lattice_le u i x h k = le_of_mul-le-mul_right (omega (arith, ints, k)) h

pub lattice_eq : (u i x : ℕ) → 0 < u → pos (i * u) ≡ pos (x * u) → i ≡ x
lattice_eq u i x h e = eq_of_mul-eq-mul_right u h i x (omega (arith, ints, e))

pub same_place : (u i j x y : ℕ) → 0 < u → lattice u i j ≡ lattice u x y → (i ≡ x) × (j ≡ y)
same_place u i j x y h e = (lattice_eq u i x h (ap (λ (p : Point). p.x) e), lattice_eq u j y h (ap (λ (p : Point). p.y) e))

-- ---- a level and an upright edge, and a point
abbrev at : ℤ → ℤ → Point
at x y = record { x = x; y = y }

level_side : (a b y p q : ℤ) → orient (at a y) (at b y) (at p q) ≡ (b -ℤ a) *ℤ (q -ℤ y)
level_side a b y p q = ring (a ∷ b ∷ y ∷ p ∷ q ∷ []) ((var 1 ⊖ var 0) ⊗ (var 4 ⊖ var 2) ⊖ (var 2 ⊖ var 2) ⊗ (var 3 ⊖ var 0)) ((var 1 ⊖ var 0) ⊗ (var 4 ⊖ var 2)) refl

upright_side : (x a b p q : ℤ) → orient (at x a) (at x b) (at p q) ≡ (b -ℤ a) *ℤ (x -ℤ p)
upright_side x a b p q = ring (x ∷ a ∷ b ∷ p ∷ q ∷ []) ((var 0 ⊖ var 0) ⊗ (var 4 ⊖ var 1) ⊖ (var 2 ⊖ var 1) ⊗ (var 3 ⊖ var 0)) ((var 2 ⊖ var 1) ⊗ (var 0 ⊖ var 3)) refl

on_level : (a b y p q : ℤ) → a <ℤ b → orient (at a y) (at b y) (at p q) ≡ pos 0 → q ≡ y
on_level a b y p q h e = omega (arith, ints, zero_factor (b -ℤ a) (q -ℤ y) (sym (level_side a b y p q) ∙ e) (omega (arith, ints)))

on_upright : (x a b p q : ℤ) → a <ℤ b → orient (at x a) (at x b) (at p q) ≡ pos 0 → p ≡ x
on_upright x a b p q h e = omega (arith, ints, zero_factor (b -ℤ a) (x -ℤ p) (sym (upright_side x a b p q) ∙ e) (omega (arith, ints)))

from_least : (a b p : ℤ) → a <ℤ b → int_min a b ≤ℤ p → a ≤ℤ p
from_least a b p h k = grind (arith, ints)

to_greatest : (a b p : ℤ) → a <ℤ b → p ≤ℤ int_max a b → p ≤ℤ b
to_greatest a b p h k = grind (arith, ints)

-- ---- no lattice point is in an open edge
pub step_up : (u i : ℕ) → 0 < u → pos (i * u) <ℤ pos ((i + 1) * u)
step_up u i h = omega (arith, ints)

-- a number from i to i + 1 is one of them
one_of_two : (i x : ℕ) → i ≤ x → x ≤ i + 1 → (x ≡ i) ⊎ (x ≡ i + 1)
one_of_two i x h k = grind arith

free_level : (u i j x y : ℕ) → 0 < u → ¬ (IsOnOpen (lattice u x y) (lattice u i j) (lattice u (i + 1) j))
free_level u i j x y h o =
    let up : pos (i * u) <ℤ pos ((i + 1) * u) = step_up u i h in
    let f : y ≡ j = lattice_eq u y j h (on_level (pos (i * u)) (pos ((i + 1) * u)) (pos (j * u)) (pos (x * u)) (pos (y * u)) up o.straight) in
    let least : i ≤ x = lattice_le u i x h (from_least _ _ (pos (x * u)) up o.right_of_least) in
    let greatest : x ≤ i + 1 = lattice_le u x (i + 1) h (to_greatest _ _ (pos (x * u)) up o.left_of_greatest) in
    elim (one_of_two i x least greatest) [
      | inl e ↦ o.not_a (ap (λ (k : ℕ). lattice u k y) e ∙ ap (λ (k : ℕ). lattice u i k) f)
      | inr e ↦ o.not_b (ap (λ (k : ℕ). lattice u k y) e ∙ ap (λ (k : ℕ). lattice u (i + 1) k) f)
    ]

free_upright : (u i j x y : ℕ) → 0 < u → ¬ (IsOnOpen (lattice u x y) (lattice u i j) (lattice u i (j + 1)))
free_upright u i j x y h o =
    let up : pos (j * u) <ℤ pos ((j + 1) * u) = step_up u j h in
    let f : x ≡ i = lattice_eq u x i h (on_upright (pos (i * u)) (pos (j * u)) (pos ((j + 1) * u)) (pos (x * u)) (pos (y * u)) up o.straight) in
    let least : j ≤ y = lattice_le u j y h (from_least _ _ (pos (y * u)) up o.above_least) in
    let greatest : y ≤ j + 1 = lattice_le u y (j + 1) h (to_greatest _ _ (pos (y * u)) up o.below_greatest) in
    elim (one_of_two j y least greatest) [
      | inl e ↦ o.not_a (ap (λ (k : ℕ). lattice u k y) f ∙ ap (λ (k : ℕ). lattice u i k) e)
      | inr e ↦ o.not_b (ap (λ (k : ℕ). lattice u k y) f ∙ ap (λ (k : ℕ). lattice u i k) e)
    ]

-- ---- no two edges cross
square_low : (z w : ℤ) → z ≡ w → (z *ℤ w) <ℤ pos 0 → ⊥
square_low z w e h = elim (either z (pos 0)) [ inl n ↦ omega (arith, ints, h, np_mul z w n (omega (arith, ints))) | inr n ↦ omega (arith, ints, h, nn_mul z w (omega (arith, ints)) (omega (arith, ints))) ]

levels_cross : (a b y c d w : ℤ) → ¬ (DoCross (at a y) (at b y) (at c w) (at d w))
levels_cross a b y c d w x = square_low _ _ (level_side a b y c w ∙ sym (level_side a b y d w)) x.ends_first

uprights_cross : (x a b z c d : ℤ) → ¬ (DoCross (at x a) (at x b) (at z c) (at z d))
uprights_cross x a b z c d h = square_low _ _ (upright_side x a b z c ∙ sym (upright_side x a b z d)) h.ends_first

-- both ends of the upright edge on one side of the level one
one_side : (m s t : ℤ) → pos 0 ≤ℤ m → ((s ≤ℤ pos 0) × (t ≤ℤ pos 0)) ⊎ ((pos 0 ≤ℤ s) × (pos 0 ≤ℤ t)) → pos 0 ≤ℤ ((m *ℤ s) *ℤ (m *ℤ t))
one_side m s t h (inl n) = np_mul (m *ℤ s) (m *ℤ t) (nn_np_mul m s h n.0) (nn_np_mul m t h n.1)
one_side m s t h (inr n) = nn_mul (m *ℤ s) (m *ℤ t) (nn_mul m s h n.0) (nn_mul m t h n.1)

level_upright_cross : (a b y x c d : ℤ) → a ≤ℤ b → (((c -ℤ y) ≤ℤ pos 0) × ((d -ℤ y) ≤ℤ pos 0)) ⊎ ((pos 0 ≤ℤ (c -ℤ y)) × (pos 0 ≤ℤ (d -ℤ y))) → ¬ (DoCross (at a y) (at b y) (at x c) (at x d))
level_upright_cross a b y x c d h s k =
    let first : (((b -ℤ a) *ℤ (c -ℤ y)) *ℤ ((b -ℤ a) *ℤ (d -ℤ y))) <ℤ pos 0 =
    subst (λ (z : ℤ). (z *ℤ ((b -ℤ a) *ℤ (d -ℤ y))) <ℤ pos 0) (level_side a b y x c) (subst (λ (z : ℤ). (orient (at a y) (at b y) (at x c) *ℤ z) <ℤ pos 0) (level_side a b y x d) k.ends_first) in
    omega (arith, ints, first, one_side (b -ℤ a) (c -ℤ y) (d -ℤ y) (omega (arith, ints)) s)

-- two numbers of a lattice that are neighbours are on one side of each other number
beside : (u j y : ℕ) → 0 < u → (((pos (y * u) -ℤ pos (j * u)) ≤ℤ pos 0) × ((pos ((y + 1) * u) -ℤ pos (j * u)) ≤ℤ pos 0)) ⊎ ((pos 0 ≤ℤ (pos (y * u) -ℤ pos (j * u))) × (pos 0 ≤ℤ (pos ((y + 1) * u) -ℤ pos (j * u))))
beside u j y h = elim (cases_lt y j) [ inl n ↦ inl (omega (arith, ints, lattice_steps u (y + 1) j (omega arith)), omega (arith, ints, lattice_steps u (y + 1) j (omega arith))) | inr n ↦ inr (omega (arith, ints, lattice_steps u j y n), omega (arith, ints, lattice_steps u j y n)) ]
  where
    lattice_steps : (u i x : ℕ) → i ≤ x → i * u ≤ x * u
    lattice_steps u i x h = mul-le-mul_right u h

-- ---- edges that tangle
pub levels_tangle : (u i j x y : ℕ) → 0 < u → DoTangle (lattice u i j) (lattice u (i + 1) j) (lattice u x y) (lattice u (x + 1) y) → (i ≡ x) × (j ≡ y)
levels_tangle u i j x y h (same_ends e f) = same_place u i j x y h e
levels_tangle u i j x y h (swapped_ends e f) =
    let a = (same_place u i j (x + 1) y h e).0 in let b = (same_place u (i + 1) j x y h f).0 in absurd (omega (arith, a, b))
levels_tangle u i j x y h (first_start o) = absurd (free_level u x y i j h o)
levels_tangle u i j x y h (first_end o) = absurd (free_level u x y (i + 1) j h o)
levels_tangle u i j x y h (second_start o) = absurd (free_level u i j x y h o)
levels_tangle u i j x y h (second_end o) = absurd (free_level u i j (x + 1) y h o)
levels_tangle u i j x y h (crossing o) = absurd (levels_cross (pos (i * u)) (pos ((i + 1) * u)) (pos (j * u)) (pos (x * u)) (pos ((x + 1) * u)) (pos (y * u)) o)

pub uprights_tangle : (u i j x y : ℕ) → 0 < u → DoTangle (lattice u i j) (lattice u i (j + 1)) (lattice u x y) (lattice u x (y + 1)) → (i ≡ x) × (j ≡ y)
uprights_tangle u i j x y h (same_ends e f) = same_place u i j x y h e
uprights_tangle u i j x y h (swapped_ends e f) =
    let a = (same_place u i j x (y + 1) h e).1 in let b = (same_place u i (j + 1) x y h f).1 in absurd (omega (arith, a, b))
uprights_tangle u i j x y h (first_start o) = absurd (free_upright u x y i j h o)
uprights_tangle u i j x y h (first_end o) = absurd (free_upright u x y i (j + 1) h o)
uprights_tangle u i j x y h (second_start o) = absurd (free_upright u i j x y h o)
uprights_tangle u i j x y h (second_end o) = absurd (free_upright u i j x (y + 1) h o)
uprights_tangle u i j x y h (crossing o) = absurd (uprights_cross (pos (i * u)) (pos (j * u)) (pos ((j + 1) * u)) (pos (x * u)) (pos (y * u)) (pos ((y + 1) * u)) o)

pub level_upright_tangle : (u i j x y : ℕ) → 0 < u → ¬ (DoTangle (lattice u i j) (lattice u (i + 1) j) (lattice u x y) (lattice u x (y + 1)))
level_upright_tangle u i j x y h (same_ends e f) =
    let a = (same_place u i j x y h e).0 in let b = (same_place u (i + 1) j x (y + 1) h f).0 in omega (arith, a, b)
level_upright_tangle u i j x y h (swapped_ends e f) =
    let a = (same_place u i j x (y + 1) h e).0 in let b = (same_place u (i + 1) j x y h f).0 in omega (arith, a, b)
level_upright_tangle u i j x y h (first_start o) = free_upright u x y i j h o
level_upright_tangle u i j x y h (first_end o) = free_upright u x y (i + 1) j h o
level_upright_tangle u i j x y h (second_start o) = free_level u i j x y h o
level_upright_tangle u i j x y h (second_end o) = free_level u i j x (y + 1) h o
level_upright_tangle u i j x y h (crossing o) = level_upright_cross (pos (i * u)) (pos ((i + 1) * u)) (pos (j * u)) (pos (x * u)) (pos (y * u)) (pos ((y + 1) * u)) (omega (arith, ints)) (beside u j y h) o
