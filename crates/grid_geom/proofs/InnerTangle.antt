-- Two segments with a common inner point tangle (`inner_tangles`): they cross, or lie on one line, and then the places of the ends along it decide.
-- The letters o, t and n at the head are `orient`, `along` and `squared` as polynomials, for `ring`. Stands on Meeting and Means.
use Prim.Native.Nat.{ℕ}
use lib.IntN.{ℤ, pos, ◌+ℤ◌, ◌-ℤ◌, ◌*ℤ◌}
use lib.Signed.{◌<ℤ◌, ◌≤ℤ◌}
use mathlib.Core.Path.{◌≡◌, refl, sym, ap, ◌∙◌, subst}
use mathlib.Core.List.{List, [], ◌∷◌}
use mathlib.Core.Logic.{◌⊎◌, inl, inr}
use native.Mathlib.Omega.{arith}
use Rattle.std.proofs.lemmas.Int.{ints, clamps}
use Rattle.std.specs.Int.{int_max, int_min}
use Rattle.grid_geom.specs.declared.Point.{Point}
use Rattle.grid_geom.specs.declared.RatPoint.{RatPoint}
use Rattle.grid_geom.specs.Plane.{orient}
use Rattle.grid_geom.specs.Line.{Line, side, whole, through}
use Rattle.grid_geom.specs.Segment.{IsInnerTo}
use Rattle.grid_geom.specs.Sides.{IsOnOpen, DoTangle, same_ends, swapped_ends, first_start, first_end, second_start, second_end, crossing}
use Rattle.grid_geom.proofs.Ring.{E, var, num, ◌⊕◌, ◌⊖◌, ◌⊗◌, ring}
use Rattle.grid_geom.proofs.Signs.{nn_mul, pos_mul, nn_np_mul, pos_mul_neg, neg_mul_neg, either, ordered, pos_factor, le_cancel, mean_le, mean_ge, zero_factor}
use Rattle.grid_geom.proofs.Lines.{through_is, orient_whole, same_place}
use Rattle.grid_geom.proofs.Meeting.{squared, squared_pos, on_back}
use Rattle.grid_geom.proofs.Means.{side_mean, on_line}

-- how far v is along a-b
abbrev pub along : Point → Point → Point → ℤ
along a b v = (b.x -ℤ a.x) *ℤ (v.x -ℤ a.x) +ℤ (b.y -ℤ a.y) *ℤ (v.y -ℤ a.y)

record PE : Type 0 where
  x : E
  y : E

abbrev A : PE
A = record { x = var 0; y = var 1 }

abbrev B : PE
B = record { x = var 2; y = var 3 }

abbrev C : PE
C = record { x = var 4; y = var 5 }

abbrev D : PE
D = record { x = var 6; y = var 7 }

abbrev o : PE → PE → PE → E
o a b c = (b.x ⊖ a.x) ⊗ (c.y ⊖ a.y) ⊖ (b.y ⊖ a.y) ⊗ (c.x ⊖ a.x)

abbrev t : PE → PE → PE → E
t a b v = (b.x ⊖ a.x) ⊗ (v.x ⊖ a.x) ⊕ (b.y ⊖ a.y) ⊗ (v.y ⊖ a.y)

abbrev n : PE → PE → E
n a b = (b.x ⊖ a.x) ⊗ (b.x ⊖ a.x) ⊕ (b.y ⊖ a.y) ⊗ (b.y ⊖ a.y)

abbrev six : Point → Point → Point → List ℤ
six a b v = a.x ∷ a.y ∷ b.x ∷ b.y ∷ v.x ∷ v.y ∷ []

abbrev eight : Point → Point → Point → Point → List ℤ
eight a b c d = a.x ∷ a.y ∷ b.x ∷ b.y ∷ c.x ∷ c.y ∷ d.x ∷ d.y ∷ []

drop_zero : (m z : ℤ) {y w : ℤ} → y ≡ w -ℤ m *ℤ z → z ≡ pos 0 → y ≡ w
drop_zero m z {y} {w} e h = e ∙ ap (λ (z : ℤ). w -ℤ m *ℤ z) h ∙ ring (w ∷ m ∷ []) (var 0 ⊖ var 1 ⊗ num (pos 0)) (var 0) refl

from_a_x : (a b v : Point) → orient a b v ≡ pos 0 → squared a b *ℤ (v.x -ℤ a.x) ≡ (b.x -ℤ a.x) *ℤ along a b v
from_a_x a b v e = drop_zero (b.y -ℤ a.y) (orient a b v) (ring (six a b v) (n A B ⊗ (C.x ⊖ A.x)) ((B.x ⊖ A.x) ⊗ t A B C ⊖ (B.y ⊖ A.y) ⊗ o A B C) refl) e

from_a_y : (a b v : Point) → orient a b v ≡ pos 0 → squared a b *ℤ (v.y -ℤ a.y) ≡ (b.y -ℤ a.y) *ℤ along a b v
from_a_y a b v e = drop_zero (a.x -ℤ b.x) (orient a b v) (ring (six a b v) (n A B ⊗ (C.y ⊖ A.y)) ((B.y ⊖ A.y) ⊗ t A B C ⊖ (A.x ⊖ B.x) ⊗ o A B C) refl) e

to_b_x : (a b v : Point) → orient a b v ≡ pos 0 → squared a b *ℤ (b.x -ℤ v.x) ≡ (b.x -ℤ a.x) *ℤ (squared a b -ℤ along a b v)
to_b_x a b v e = drop_zero (a.y -ℤ b.y) (orient a b v) (ring (six a b v) (n A B ⊗ (B.x ⊖ C.x)) ((B.x ⊖ A.x) ⊗ (n A B ⊖ t A B C) ⊖ (A.y ⊖ B.y) ⊗ o A B C) refl) e

to_b_y : (a b v : Point) → orient a b v ≡ pos 0 → squared a b *ℤ (b.y -ℤ v.y) ≡ (b.y -ℤ a.y) *ℤ (squared a b -ℤ along a b v)
to_b_y a b v e = drop_zero (b.x -ℤ a.x) (orient a b v) (ring (six a b v) (n A B ⊗ (B.y ⊖ C.y)) ((B.y ⊖ A.y) ⊗ (n A B ⊖ t A B C) ⊖ (B.x ⊖ A.x) ⊗ o A B C) refl) e

box_low : (s f g u w z : ℤ) → s *ℤ (z -ℤ u) ≡ (w -ℤ u) *ℤ f → s *ℤ (w -ℤ z) ≡ (w -ℤ u) *ℤ g → pos 0 <ℤ s → pos 0 ≤ℤ f → pos 0 ≤ℤ g → (int_min u w ≤ℤ z) × (z ≤ℤ int_max u w)
box_low s f g u w z e e' hs hf hg = elim (either u w) [
  | inl l ↦ let i : pos 0 ≤ℤ (z -ℤ u) = mean_le s f (z -ℤ u) (w -ℤ u) e hs (omega (arith, ints)) hf in let j : pos 0 ≤ℤ (w -ℤ z) = mean_le s g (w -ℤ z) (w -ℤ u) e' hs (omega (arith, ints)) hg in (omega (arith, ints, clamps), omega (arith, ints, clamps))
  | inr l ↦ let i : (z -ℤ u) ≤ℤ pos 0 = mean_ge s f (z -ℤ u) (w -ℤ u) e hs (omega (arith, ints)) hf in let j : (w -ℤ z) ≤ℤ pos 0 = mean_ge s g (w -ℤ z) (w -ℤ u) e' hs (omega (arith, ints)) hg in (omega (arith, ints, clamps), omega (arith, ints, clamps))
]

at_a : (a b : Point) → along a b a ≡ pos 0
at_a a b = ring (six a b a) ((B.x ⊖ A.x) ⊗ (A.x ⊖ A.x) ⊕ (B.y ⊖ A.y) ⊗ (A.y ⊖ A.y)) (num (pos 0)) refl

-- on the line, strictly between the ends
pub open_by_place : (a b v : Point) → ¬ (a ≡ b) → orient a b v ≡ pos 0 → pos 0 <ℤ along a b v → pos 0 <ℤ (squared a b -ℤ along a b v) → IsOnOpen v a b
open_by_place a b v d e h j = record {
  straight = e;
  right_of_least = bx.0;
  left_of_greatest = bx.1;
  above_least = by.0;
  below_greatest = by.1;
  not_a = λ s. start (subst (λ (z : Point). pos 0 <ℤ along a b z) s h);
  not_b = λ s. finish (subst (λ (z : Point). pos 0 <ℤ (squared a b -ℤ along a b z)) s j);
}
  where
    weak : {z : ℤ} → pos 0 <ℤ z → pos 0 ≤ℤ z
    weak {z} h = omega (arith, ints)

    bx : (int_min a.x b.x ≤ℤ v.x) × (v.x ≤ℤ int_max a.x b.x)
    bx = box_low (squared a b) (along a b v) (squared a b -ℤ along a b v) a.x b.x v.x (from_a_x a b v e) (to_b_x a b v e) (squared_pos a b d) (weak h) (weak j)

    by : (int_min a.y b.y ≤ℤ v.y) × (v.y ≤ℤ int_max a.y b.y)
    by = box_low (squared a b) (along a b v) (squared a b -ℤ along a b v) a.y b.y v.y (from_a_y a b v e) (to_b_y a b v e) (squared_pos a b d) (weak h) (weak j)

    start : pos 0 <ℤ along a b a → ⊥
    start h = omega (arith, ints, subst (λ (z : ℤ). pos 0 <ℤ z) (at_a a b) h)

    same : squared a b -ℤ along a b b ≡ pos 0
    same = ring (six a b a) (n A B ⊖ t A B B) (num (pos 0)) refl

    finish : pos 0 <ℤ (squared a b -ℤ along a b b) → ⊥
    finish h = omega (arith, ints, subst (λ (z : ℤ). pos 0 <ℤ z) same h)

-- on the line at the place of an end
is_a : (a b v : Point) → ¬ (a ≡ b) → orient a b v ≡ pos 0 → along a b v ≡ pos 0 → v ≡ a
is_a a b v d e h = same_place v a (equal (zero_factor (squared a b) (v.x -ℤ a.x) (from_a_x a b v e ∙ ap (λ (z : ℤ). (b.x -ℤ a.x) *ℤ z) h ∙ none (b.x -ℤ a.x)) (squared_pos a b d)))
    (equal (zero_factor (squared a b) (v.y -ℤ a.y) (from_a_y a b v e ∙ ap (λ (z : ℤ). (b.y -ℤ a.y) *ℤ z) h ∙ none (b.y -ℤ a.y)) (squared_pos a b d)))
  where
    none : (m : ℤ) → m *ℤ pos 0 ≡ pos 0
    none m = omega (arith, ints)

    equal : {x y : ℤ} → x -ℤ y ≡ pos 0 → x ≡ y
    equal {x} {y} e = omega (arith, ints)

is_b : (a b v : Point) → ¬ (a ≡ b) → orient a b v ≡ pos 0 → squared a b -ℤ along a b v ≡ pos 0 → v ≡ b
is_b a b v d e h = same_place v b (equal (zero_factor (squared a b) (b.x -ℤ v.x) (to_b_x a b v e ∙ ap (λ (z : ℤ). (b.x -ℤ a.x) *ℤ z) h ∙ none (b.x -ℤ a.x)) (squared_pos a b d)))
    (equal (zero_factor (squared a b) (b.y -ℤ v.y) (to_b_y a b v e ∙ ap (λ (z : ℤ). (b.y -ℤ a.y) *ℤ z) h ∙ none (b.y -ℤ a.y)) (squared_pos a b d)))
  where
    none : (m : ℤ) → m *ℤ pos 0 ≡ pos 0
    none m = omega (arith, ints)

    equal : {x y : ℤ} → y -ℤ x ≡ pos 0 → x ≡ y
    equal {x} {y} e = omega (arith, ints)

-- the places of a and b along c-d, from those of c and d along a-b
two_zeros : (m l f g : ℤ) {y w : ℤ} → y ≡ w -ℤ m *ℤ f -ℤ l *ℤ g → f ≡ pos 0 → g ≡ pos 0 → y ≡ w
two_zeros m l f g {y} {w} e h j = e ∙ ap (λ (z : ℤ). w -ℤ m *ℤ z -ℤ l *ℤ g) h ∙ ap (λ (z : ℤ). w -ℤ m *ℤ pos 0 -ℤ l *ℤ z) j ∙ ring (w ∷ m ∷ l ∷ []) (var 0 ⊖ var 1 ⊗ num (pos 0) ⊖ var 2 ⊗ num (pos 0)) (var 0) refl

a_along : (a b c d : Point) → orient a b c ≡ pos 0 → orient a b d ≡ pos 0 → squared a b *ℤ along c d a ≡ (pos 0 -ℤ along a b c) *ℤ (along a b d -ℤ along a b c)
a_along a b c d e f = two_zeros (orient a b d -ℤ orient a b c) (pos 0) (orient a b c) (orient a b d)
    (ring (eight a b c d) (n A B ⊗ t C D A) ((num (pos 0) ⊖ t A B C) ⊗ (t A B D ⊖ t A B C) ⊖ (o A B D ⊖ o A B C) ⊗ o A B C ⊖ num (pos 0) ⊗ o A B D) refl) e f

a_rest : (a b c d : Point) → orient a b c ≡ pos 0 → orient a b d ≡ pos 0 → squared a b *ℤ (squared c d -ℤ along c d a) ≡ along a b d *ℤ (along a b d -ℤ along a b c)
a_rest a b c d e f = two_zeros (pos 0) (orient a b c -ℤ orient a b d) (orient a b c) (orient a b d)
    (ring (eight a b c d) (n A B ⊗ (n C D ⊖ t C D A)) (t A B D ⊗ (t A B D ⊖ t A B C) ⊖ num (pos 0) ⊗ o A B C ⊖ (o A B C ⊖ o A B D) ⊗ o A B D) refl) e f

b_along : (a b c d : Point) → orient a b c ≡ pos 0 → orient a b d ≡ pos 0 → squared a b *ℤ along c d b ≡ (squared a b -ℤ along a b c) *ℤ (along a b d -ℤ along a b c)
b_along a b c d e f = two_zeros (orient a b d -ℤ orient a b c) (pos 0) (orient a b c) (orient a b d)
    (ring (eight a b c d) (n A B ⊗ t C D B) ((n A B ⊖ t A B C) ⊗ (t A B D ⊖ t A B C) ⊖ (o A B D ⊖ o A B C) ⊗ o A B C ⊖ num (pos 0) ⊗ o A B D) refl) e f

b_rest : (a b c d : Point) → orient a b c ≡ pos 0 → orient a b d ≡ pos 0 → squared a b *ℤ (squared c d -ℤ along c d b) ≡ (along a b d -ℤ squared a b) *ℤ (along a b d -ℤ along a b c)
b_rest a b c d e f = two_zeros (pos 0) (orient a b c -ℤ orient a b d) (orient a b c) (orient a b d)
    (ring (eight a b c d) (n A B ⊗ (n C D ⊖ t C D B)) ((t A B D ⊖ n A B) ⊗ (t A B D ⊖ t A B C) ⊖ num (pos 0) ⊗ o A B C ⊖ (o A B C ⊖ o A B D) ⊗ o A B D) refl) e f

a_flat : (a b c d : Point) → orient a b c ≡ pos 0 → orient a b d ≡ pos 0 → squared a b *ℤ orient c d a ≡ pos 0
a_flat a b c d e f = two_zeros (along a b d) (pos 0 -ℤ along a b c) (orient a b c) (orient a b d)
    (ring (eight a b c d) (n A B ⊗ o C D A) (num (pos 0) ⊖ t A B D ⊗ o A B C ⊖ (num (pos 0) ⊖ t A B C) ⊗ o A B D) refl) e f

b_flat : (a b c d : Point) → orient a b c ≡ pos 0 → orient a b d ≡ pos 0 → squared a b *ℤ orient c d b ≡ pos 0
b_flat a b c d e f = two_zeros (along a b d -ℤ squared a b) (squared a b -ℤ along a b c) (orient a b c) (orient a b d)
    (ring (eight a b c d) (n A B ⊗ o C D B) (num (pos 0) ⊖ (t A B D ⊖ n A B) ⊗ o A B C ⊖ (n A B ⊖ t A B C) ⊗ o A B D) refl) e f

-- ---- the case of one line
opposite_pos : (s m f g : ℤ) → s *ℤ m ≡ f *ℤ g → pos 0 <ℤ s → pos 0 <ℤ f → pos 0 <ℤ g → pos 0 <ℤ m
opposite_pos s m f g e hs hf hg = pos_factor s m (omega (arith, ints, e, pos_mul f g hf hg)) (omega (arith, ints))

opposite_neg : (s m f g : ℤ) → s *ℤ m ≡ f *ℤ g → pos 0 <ℤ s → f <ℤ pos 0 → g <ℤ pos 0 → pos 0 <ℤ m
opposite_neg s m f g e hs hf hg = pos_factor s m (omega (arith, ints, e, neg_mul_neg f g hf hg)) (omega (arith, ints))

pub record AreOnLine (a b c d : Point) : Type 0 where
  pub different : ¬ (a ≡ b)
  pub others_different : ¬ (c ≡ d)
  pub c_straight : orient a b c ≡ pos 0
  pub d_straight : orient a b d ≡ pos 0

a_open : (a b c d : Point) → AreOnLine a b c d → (along a b c <ℤ pos 0) × (pos 0 <ℤ along a b d) ⊎ (pos 0 <ℤ along a b c) × (along a b d <ℤ pos 0) → IsOnOpen a c d
a_open a b c d h s = open_by_place c d a h.others_different (zero_factor (squared a b) (orient c d a) (a_flat a b c d h.c_straight h.d_straight) N) (first s) (second s)
  where
    N : pos 0 <ℤ squared a b
    N = squared_pos a b h.different

    first : (along a b c <ℤ pos 0) × (pos 0 <ℤ along a b d) ⊎ (pos 0 <ℤ along a b c) × (along a b d <ℤ pos 0) → pos 0 <ℤ along c d a
    first (inl i) = opposite_pos _ _ _ _ (a_along a b c d h.c_straight h.d_straight) N (up i.0) (more i.0 i.1)
      where
        up : {z : ℤ} → z <ℤ pos 0 → pos 0 <ℤ (pos 0 -ℤ z)
        up {z} h = omega (arith, ints)

        more : {y z : ℤ} → y <ℤ pos 0 → pos 0 <ℤ z → pos 0 <ℤ (z -ℤ y)
        more {y} {z} h j = omega (arith, ints)
    first (inr i) = opposite_neg _ _ _ _ (a_along a b c d h.c_straight h.d_straight) N (down i.0) (less i.0 i.1)
      where
        down : {z : ℤ} → pos 0 <ℤ z → (pos 0 -ℤ z) <ℤ pos 0
        down {z} h = omega (arith, ints)

        less : {y z : ℤ} → pos 0 <ℤ y → z <ℤ pos 0 → (z -ℤ y) <ℤ pos 0
        less {y} {z} h j = omega (arith, ints)

    second : (along a b c <ℤ pos 0) × (pos 0 <ℤ along a b d) ⊎ (pos 0 <ℤ along a b c) × (along a b d <ℤ pos 0) → pos 0 <ℤ (squared c d -ℤ along c d a)
    second (inl i) = opposite_pos _ _ _ _ (a_rest a b c d h.c_straight h.d_straight) N i.1 (more i.0 i.1)
      where
        more : {y z : ℤ} → y <ℤ pos 0 → pos 0 <ℤ z → pos 0 <ℤ (z -ℤ y)
        more {y} {z} h j = omega (arith, ints)
    second (inr i) = opposite_neg _ _ _ _ (a_rest a b c d h.c_straight h.d_straight) N i.1 (less i.0 i.1)
      where
        less : {y z : ℤ} → pos 0 <ℤ y → z <ℤ pos 0 → (z -ℤ y) <ℤ pos 0
        less {y} {z} h j = omega (arith, ints)

-- b between c and d; the numbers are N - g and e - N
b_open : (a b c d : Point) → AreOnLine a b c d → (pos 0 <ℤ (squared a b -ℤ along a b c)) × (pos 0 <ℤ (along a b d -ℤ squared a b)) ⊎ ((squared a b -ℤ along a b c) <ℤ pos 0) × ((along a b d -ℤ squared a b) <ℤ pos 0) → IsOnOpen b c d
b_open a b c d h s = open_by_place c d b h.others_different (zero_factor (squared a b) (orient c d b) (b_flat a b c d h.c_straight h.d_straight) N) (first s) (second s)
  where
    N : pos 0 <ℤ squared a b
    N = squared_pos a b h.different

    more : (m y z : ℤ) → pos 0 <ℤ (m -ℤ y) → pos 0 <ℤ (z -ℤ m) → pos 0 <ℤ (z -ℤ y)
    more m y z h j = omega (arith, ints)

    less : (m y z : ℤ) → (m -ℤ y) <ℤ pos 0 → (z -ℤ m) <ℤ pos 0 → (z -ℤ y) <ℤ pos 0
    less m y z h j = omega (arith, ints)

    first : (pos 0 <ℤ (squared a b -ℤ along a b c)) × (pos 0 <ℤ (along a b d -ℤ squared a b)) ⊎ ((squared a b -ℤ along a b c) <ℤ pos 0) × ((along a b d -ℤ squared a b) <ℤ pos 0) → pos 0 <ℤ along c d b
    first (inl i) = opposite_pos _ _ _ _ (b_along a b c d h.c_straight h.d_straight) N i.0 (more (squared a b) (along a b c) (along a b d) i.0 i.1)
    first (inr i) = opposite_neg _ _ _ _ (b_along a b c d h.c_straight h.d_straight) N i.0 (less (squared a b) (along a b c) (along a b d) i.0 i.1)

    second : (pos 0 <ℤ (squared a b -ℤ along a b c)) × (pos 0 <ℤ (along a b d -ℤ squared a b)) ⊎ ((squared a b -ℤ along a b c) <ℤ pos 0) × ((along a b d -ℤ squared a b) <ℤ pos 0) → pos 0 <ℤ (squared c d -ℤ along c d b)
    second (inl i) = opposite_pos _ _ _ _ (b_rest a b c d h.c_straight h.d_straight) N i.1 (more (squared a b) (along a b c) (along a b d) i.0 i.1)
    second (inr i) = opposite_neg _ _ _ _ (b_rest a b c d h.c_straight h.d_straight) N i.1 (less (squared a b) (along a b c) (along a b d) i.0 i.1)

-- c not after a, d not before b
spread : (a b c d : Point) → AreOnLine a b c d → along a b c ≤ℤ pos 0 → pos 0 ≤ℤ (along a b d -ℤ squared a b) → DoTangle a b c d
spread a b c d h i j = elim (ordered (along a b c) (pos 0)) [
  | inl f ↦ first_start (a_open a b c d h (inl (f, omega (arith, ints, j, squared_pos a b h.different))))
  | inr r ↦ elim r [
    | inr f ↦ absurd (clash f i)
    | inl f ↦ elim (ordered (along a b d -ℤ squared a b) (pos 0)) [
      | inl g ↦ absurd (clash' g j)
      | inr s ↦ elim s [
        | inr g ↦ first_end (b_open a b c d h (inl (omega (arith, ints, f, squared_pos a b h.different), g)))
        | inl g ↦ same_ends (sym (is_a a b c h.different h.c_straight f)) (sym (is_b a b d h.different h.d_straight (turned (along a b d) (squared a b) g)))
      ]
    ]
  ]
]
  where
    clash : {z : ℤ} → pos 0 <ℤ z → z ≤ℤ pos 0 → ⊥
    clash {z} h j = omega (arith, ints)

    clash' : {z : ℤ} → z <ℤ pos 0 → pos 0 ≤ℤ z → ⊥
    clash' {z} h j = omega (arith, ints)

    turned : (y z : ℤ) → y -ℤ z ≡ pos 0 → z -ℤ y ≡ pos 0
    turned y z e = omega (arith, ints)

turn_tangle : (a b c d : Point) → DoTangle a b d c → DoTangle a b c d
turn_tangle a b c d (same_ends e f) = swapped_ends e f
turn_tangle a b c d (swapped_ends e f) = same_ends e f
turn_tangle a b c d (first_start h) = first_start (reversed a d c h)
  where
    reversed : (p a b : Point) → IsOnOpen p a b → IsOnOpen p b a
    reversed p a b h = record { straight = omega (arith, ints, h.straight, back); right_of_least = omega (arith, ints, clamps, h.right_of_least); left_of_greatest = omega (arith, ints, clamps, h.left_of_greatest); above_least = omega (arith, ints, clamps, h.above_least); below_greatest = omega (arith, ints, clamps, h.below_greatest); not_a = h.not_b; not_b = h.not_a }
      where
        back : orient b a p ≡ pos 0 -ℤ orient a b p
        back = ring (six a b p) (o B A C) (num (pos 0) ⊖ o A B C) refl
turn_tangle a b c d (first_end h) = first_end (reversed b d c h)
  where
    reversed : (p a b : Point) → IsOnOpen p a b → IsOnOpen p b a
    reversed p a b h = record { straight = omega (arith, ints, h.straight, back); right_of_least = omega (arith, ints, clamps, h.right_of_least); left_of_greatest = omega (arith, ints, clamps, h.left_of_greatest); above_least = omega (arith, ints, clamps, h.above_least); below_greatest = omega (arith, ints, clamps, h.below_greatest); not_a = h.not_b; not_b = h.not_a }
      where
        back : orient b a p ≡ pos 0 -ℤ orient a b p
        back = ring (six a b p) (o B A C) (num (pos 0) ⊖ o A B C) refl
turn_tangle a b c d (second_start h) = second_end h
turn_tangle a b c d (second_end h) = second_start h
turn_tangle a b c d (crossing h) = crossing (record {
  ends_first = subst (λ (z : ℤ). z <ℤ pos 0) (ring (orient a b d ∷ orient a b c ∷ []) (var 0 ⊗ var 1) (var 1 ⊗ var 0) refl) h.ends_first;
  ends_second = subst (λ (z : ℤ). z <ℤ pos 0) (ring (eight a b c d) (o D C A ⊗ o D C B) (o C D A ⊗ o C D B) refl) h.ends_second;
})

-- ---- a common inner point
zero_sum : (s t x y k : ℤ) → pos 0 ≡ k *ℤ (s *ℤ x +ℤ t *ℤ y) → pos 0 <ℤ k → pos 0 <ℤ s → pos 0 <ℤ t → ((x *ℤ y) <ℤ pos 0) ⊎ ((x ≡ pos 0) × (y ≡ pos 0))
zero_sum s t x y k e hk hs ht = elim (ordered x (pos 0)) [
  | inl i ↦ elim (either y (pos 0)) [
    | inl j ↦ absurd (omega (arith, ints, e, pos_mul_neg k (s *ℤ x +ℤ t *ℤ y) hk (omega (arith, ints, pos_mul_neg s x hs i, nn_np_mul t y (omega (arith, ints)) j))))
    | inr j ↦ inl (omega (arith, ints, pos_mul_neg y x j i))
  ]
  | inr r ↦ elim r [
    | inl i ↦ elim (ordered y (pos 0)) [
      | inl j ↦ absurd (omega (arith, ints, e, pos_mul_neg k (s *ℤ x +ℤ t *ℤ y) hk (omega (arith, ints, pos_mul_neg t y ht j, nn_np_mul s x (omega (arith, ints)) (omega (arith, ints))))))
      | inr s' ↦ elim s' [
        | inl j ↦ inr (i, j)
        | inr j ↦ absurd (omega (arith, ints, e, pos_mul k (s *ℤ x +ℤ t *ℤ y) hk (omega (arith, ints, pos_mul t y ht j, nn_mul s x (omega (arith, ints)) (omega (arith, ints))))))
      ]
    ]
    | inr i ↦ elim (either (pos 0) y) [
      | inl j ↦ absurd (omega (arith, ints, e, pos_mul k (s *ℤ x +ℤ t *ℤ y) hk (omega (arith, ints, pos_mul s x hs i, nn_mul t y (omega (arith, ints)) j))))
      | inr j ↦ inl (pos_mul_neg x y i j)
    ]
  ]
]

level : (l : Line) (m : RatPoint) (a b : Point) (h : IsInnerTo m a b) → side l m ≡ pos 0 → pos 0 ≡ m.k *ℤ (h.on.of_p *ℤ side l (whole a) +ℤ h.on.of_q *ℤ side l (whole b))
level l m a b h e = zero (h.on.of_p *ℤ pos 1 +ℤ h.on.of_q *ℤ pos 1) e ∙ side_mean l m (whole a) (whole b) h.on
  where
    zero : {s : ℤ} (w : ℤ) → s ≡ pos 0 → pos 0 ≡ s *ℤ w
    zero {s} w e = ring (w ∷ []) (num (pos 0)) (num (pos 0) ⊗ var 0) refl ∙ ap (λ (z : ℤ). z *ℤ w) (sym e)

at_whole : (c d p : Point) → side (through c d) (whole p) ≡ orient c d p
at_whole c d p = through_is c d (whole p) ∙ orient_whole c d p

side_back : (c d : Point) (m : RatPoint) → side (through d c) m ≡ pos 0 -ℤ side (through c d) m
side_back c d m = ring (c.x ∷ c.y ∷ d.x ∷ d.y ∷ m.x ∷ m.y ∷ m.k ∷ []) (sE 2 3 0 1) (num (pos 0) ⊖ sE 0 1 2 3) refl
  where
    sE : ℕ → ℕ → ℕ → ℕ → E
    sE c d e f = (var d ⊖ var f) ⊗ var 4 ⊕ (var e ⊖ var c) ⊗ var 5 ⊕ (var c ⊗ var f ⊖ var d ⊗ var e) ⊗ var 6

line_zero : (c d : Point) (m : RatPoint) → pos 0 <ℤ m.k → IsInnerTo m c d → side (through c d) m ≡ pos 0
line_zero c d m km h = exact (on_line c d m km h.on).0 (on_line c d m km h.on).1 (side_back c d m)
  where
    exact : {x y : ℤ} → x ≤ℤ pos 0 → y ≤ℤ pos 0 → y ≡ pos 0 -ℤ x → x ≡ pos 0
    exact {x} {y} h j e = omega (arith, ints)

-- the ends of a-b, where c-d's line goes through an inner point of it
ends_of : (a b c d : Point) (m : RatPoint) → pos 0 <ℤ m.k → IsInnerTo m a b → IsInnerTo m c d → ((orient c d a *ℤ orient c d b) <ℤ pos 0) ⊎ ((orient c d a ≡ pos 0) × (orient c d b ≡ pos 0))
ends_of a b c d m km h j = zero_sum h.on.of_p h.on.of_q (orient c d a) (orient c d b) m.k
    (level (through c d) m a b h (line_zero c d m km j) ∙ ap (λ (z : ℤ). m.k *ℤ (h.on.of_p *ℤ z +ℤ h.on.of_q *ℤ side (through c d) (whole b))) (at_whole c d a) ∙ ap (λ (z : ℤ). m.k *ℤ (h.on.of_p *ℤ orient c d a +ℤ h.on.of_q *ℤ z)) (at_whole c d b)) km h.of_a h.of_b

-- places along a-b as a line
abbrev place : Point → Point → Line
place a b = record { a = b.x -ℤ a.x; b = b.y -ℤ a.y; c = pos 0 -ℤ (b.x -ℤ a.x) *ℤ a.x -ℤ (b.y -ℤ a.y) *ℤ a.y }

place_is : (a b v : Point) → side (place a b) (whole v) ≡ along a b v
place_is a b v = ring (six a b v) ((B.x ⊖ A.x) ⊗ C.x ⊕ (B.y ⊖ A.y) ⊗ C.y ⊕ (num (pos 0) ⊖ (B.x ⊖ A.x) ⊗ A.x ⊖ (B.y ⊖ A.y) ⊗ A.y) ⊗ num (pos 1)) (t A B C) refl

at_b : (a b : Point) → along a b b ≡ squared a b
at_b a b = ring (six a b a) (t A B B) (n A B) refl

same_mean : (x w w' k s t g e u v N : ℤ) → x *ℤ w ≡ k *ℤ (s *ℤ pos 0 +ℤ t *ℤ N) → x *ℤ w' ≡ k *ℤ (u *ℤ g +ℤ v *ℤ e) → pos 0 <ℤ k → pos 0 <ℤ t → pos 0 <ℤ N → pos 0 <ℤ w → pos 0 <ℤ w' → pos 0 ≤ℤ u → pos 0 ≤ℤ v → g ≤ℤ pos 0 → e ≤ℤ pos 0 → ⊥
same_mean x w w' k s t g e u v N i j hk ht hN hw hw' hu hv hg he = clash positive negative
  where
    positive : pos 0 <ℤ x
    positive = pos_factor w x (omega (arith, ints, i, turn, pos_mul k (s *ℤ pos 0 +ℤ t *ℤ N) hk (omega (arith, ints, pos_mul t N ht hN)))) (omega (arith, ints))
      where
        turn : w *ℤ x ≡ x *ℤ w
        turn = ring (w ∷ x ∷ []) (var 0 ⊗ var 1) (var 1 ⊗ var 0) refl

    negative : x ≤ℤ pos 0
    negative = le_cancel x (pos 0) w' hw' (omega (arith, ints, j, nn_np_mul k (u *ℤ g +ℤ v *ℤ e) (omega (arith, ints)) (omega (arith, ints, nn_np_mul u g hu hg, nn_np_mul v e hv he))))

    clash : pos 0 <ℤ x → x ≤ℤ pos 0 → ⊥
    clash h j = omega (arith, ints)

weights : (m : RatPoint) (a b : Point) (h : IsInnerTo m a b) → pos 0 <ℤ (h.on.of_p *ℤ pos 1 +ℤ h.on.of_q *ℤ pos 1)
weights m a b h = omega (arith, ints, h.of_a, h.of_b)

-- not both ends of c-d at or before a
not_before : (a b c d : Point) (m : RatPoint) → ¬ (a ≡ b) → pos 0 <ℤ m.k → IsInnerTo m a b → IsInnerTo m c d → along a b c ≤ℤ pos 0 → along a b d ≤ℤ pos 0 → ⊥
not_before a b c d m n km h j f g = same_mean (side (place a b) m) (h.on.of_p *ℤ pos 1 +ℤ h.on.of_q *ℤ pos 1) (j.on.of_p *ℤ pos 1 +ℤ j.on.of_q *ℤ pos 1) m.k h.on.of_p h.on.of_q (along a b c) (along a b d) j.on.of_p j.on.of_q (squared a b)
    (side_mean (place a b) m (whole a) (whole b) h.on ∙ ap (λ (z : ℤ). m.k *ℤ (h.on.of_p *ℤ z +ℤ h.on.of_q *ℤ side (place a b) (whole b))) (place_is a b a ∙ at_a a b) ∙ ap (λ (z : ℤ). m.k *ℤ (h.on.of_p *ℤ pos 0 +ℤ h.on.of_q *ℤ z)) (place_is a b b ∙ at_b a b))
    (side_mean (place a b) m (whole c) (whole d) j.on ∙ ap (λ (z : ℤ). m.k *ℤ (j.on.of_p *ℤ z +ℤ j.on.of_q *ℤ side (place a b) (whole d))) (place_is a b c) ∙ ap (λ (z : ℤ). m.k *ℤ (j.on.of_p *ℤ along a b c +ℤ j.on.of_q *ℤ z)) (place_is a b d))
    km h.of_b (squared_pos a b n) (weights m a b h) (weights m c d j) j.on.p_weight j.on.q_weight f g

pub inner_back : (m : RatPoint) (a b : Point) → IsInnerTo m a b → IsInnerTo m b a
inner_back m a b h = record { on = on_back m (whole a) (whole b) h.on; of_a = h.of_b; of_b = h.of_a }

-- the place from the other end
along_back : (a b v : Point) → along b a v ≡ squared a b -ℤ along a b v
along_back a b v = ring (six a b v) (t B A C) (n A B ⊖ t A B C) refl

on_one_line : (a b c d : Point) (m : RatPoint) → AreOnLine a b c d → pos 0 <ℤ m.k → IsInnerTo m a b → IsInnerTo m c d → DoTangle a b c d
on_one_line a b c d m l km h j = elim (either (along a b c) (pos 0)) [
  | inl i ↦ elim (either (squared a b) (along a b d)) [
    | inl k ↦ spread a b c d l i (omega (arith, ints))
    | inr k ↦ elim (either (along a b d) (pos 0)) [
      | inl k' ↦ absurd (not_before a b c d m l.different km h j i k')
      | inr k' ↦ second_end (open_by_place a b d l.different l.d_straight k' (omega (arith, ints)))
    ]
  ]
  | inr i ↦ elim (either (squared a b) (along a b c)) [
    | inr i' ↦ second_start (open_by_place a b c l.different l.c_straight i (omega (arith, ints)))
    | inl i' ↦ elim (either (along a b d) (pos 0)) [
      | inl k ↦ turn_tangle a b c d (spread a b d c (record { different = l.different; others_different = λ s. l.others_different (sym s); c_straight = l.d_straight; d_straight = l.c_straight }) k (omega (arith, ints)))
      | inr k ↦ elim (either (squared a b) (along a b d)) [
        | inl k' ↦ absurd (not_before b a c d m (λ s. l.different (sym s)) km (inner_back m a b h) j (omega (arith, ints, along_back a b c)) (omega (arith, ints, along_back a b d)))
        | inr k' ↦ second_end (open_by_place a b d l.different l.d_straight k (omega (arith, ints)))
      ]
    ]
  ]
]

-- two segments with a common inner point tangle
pub inner_tangles : (a b c d : Point) (m : RatPoint) → ¬ (a ≡ b) → ¬ (c ≡ d) → pos 0 <ℤ m.k → IsInnerTo m a b → IsInnerTo m c d → DoTangle a b c d
inner_tangles a b c d m n n' km h j = elim (ends_of c d a b m km j h) [
  | inr z ↦ on_one_line a b c d m (record { different = n; others_different = n'; c_straight = z.0; d_straight = z.1 }) km h j
  | inl s ↦ elim (ends_of a b c d m km h j) [
    | inl r ↦ crossing (record { ends_first = s; ends_second = r })
    | inr z ↦ absurd (none s (zero_factor (squared c d) (orient a b c) (a_flat c d a b z.0 z.1) (squared_pos c d n')))
  ]
]
  where
    none : (orient a b c *ℤ orient a b d) <ℤ pos 0 → orient a b c ≡ pos 0 → ⊥
    none s e = omega (arith, ints, subst (λ (z : ℤ). (z *ℤ orient a b d) <ℤ pos 0) e s)
