-- What the tests of the code say. Stands on Lines and Signs; serves the answers of `segments` and `polygons`.
use lib.IntN.{ℤ, pos, ◌*ℤ◌}
use lib.Signed.{◌<ℤ◌, ◌≤ℤ◌, lt_z, le_z}
use mathlib.Core.Bool.{Bool, true, false, not, ◌&&◌}
use mathlib.Core.Path.{◌≡◌, refl, sym, ap, ◌∙◌, subst}
use native.Mathlib.Omega.{arith}
use Rattle.std.proofs.lemmas.Int.{ints}
use Rattle.std.specs.Int.{int_max, int_min}
use Rattle.std.specs.Ordering.{int_eq}
use Rattle.grid_geom.specs.declared.Point.{Point}
use Rattle.grid_geom.specs.declared.Edge.{Edge}
use Rattle.grid_geom.specs.declared.Bounds.{Bounds}
use Rattle.grid_geom.specs.Boxes.{DoBoundsMeet}
use Rattle.grid_geom.specs.Plane.{orient}
use Rattle.grid_geom.specs.Polygon.{is_outside}
use Rattle.grid_geom.specs.Sides.{IsBetween, DoSpansMeet, AreBeside, both_left, both_right}
use Rattle.grid_geom.proofs.Signs.{pos_mul_neg, nn_factor, neg_factor}
use Rattle.grid_geom.proofs.Lines.{same_place}

pub le_true : (a b : ℤ) → le_z a b ≡ true → a ≤ℤ b
le_true a b e = grind (arith, ints)

le_false : (a b : ℤ) → le_z a b ≡ false → b <ℤ a
le_false a b e = grind (arith, ints)

pub lt_true : (a b : ℤ) → lt_z a b ≡ true → a <ℤ b
lt_true a b e = grind (arith, ints)

lt_false : (a b : ℤ) → lt_z a b ≡ false → b ≤ℤ a
lt_false a b e = grind (arith, ints)

pub true_lt : (a b : ℤ) → a <ℤ b → lt_z a b ≡ true
true_lt a b h = grind (arith, ints)

pub true_le : (a b : ℤ) → a ≤ℤ b → le_z a b ≡ true
true_le a b h = grind (arith, ints)

pub clash : (b : Bool) → b ≡ false → b ≡ true → ⊥
clash b h j = cc

-- the test of what does not hold
pub not_true : (b : Bool) → not b ≡ true → b ≡ false
not_true true e = absurd (cc)
not_true false e = refl

pub true_not : (b : Bool) → (b ≡ true → ⊥) → not b ≡ true
true_not true h = absurd (h refl)
true_not false h = refl

eq_true : (a b : ℤ) → int_eq a b ≡ true → a ≡ b
eq_true a b e = grind (arith, ints)

eq_refl : (a : ℤ) → int_eq a a ≡ true
eq_refl a = grind (arith, ints)

-- the test of two points
pub point_same : (u w : Point) (r : Bool) → r ≡ (int_eq u.x w.x && int_eq u.y w.y) → u ≡ w → r ≡ true
point_same u w r e h = e ∙ subst (λ (v : Point). (int_eq u.x v.x && int_eq u.y v.y) ≡ true) h (ap (λ (b : Bool). b && int_eq u.y u.y) (eq_refl u.x) ∙ eq_refl u.y)

pub point_eq : (u w : Point) (r : Bool) → r ≡ (int_eq u.x w.x && int_eq u.y w.y) → r ≡ true → u ≡ w
point_eq u w r e h = elim (int_eq u.x w.x) as (λ (b : Bool). int_eq u.x w.x ≡ b → true ≡ (b && int_eq u.y w.y) → u ≡ w) [
  | true ↦ λ f g. same_place u w (eq_true u.x w.x f) (eq_true u.y w.y (sym g))
  | false ↦ λ f g. absurd (cc)
] refl (sym h ∙ e)

pub point_ne : (u w : Point) (r : Bool) → r ≡ not (int_eq u.x w.x && int_eq u.y w.y) → r ≡ false → u ≡ w
point_ne u w r e h = point_eq u w (not r) (ap not e ∙ twice (int_eq u.x w.x && int_eq u.y w.y)) (ap not h)
  where
    twice : (b : Bool) → not (not b) ≡ b
    twice true = refl
    twice false = refl

-- the tests of a number against two, and of two spans
pub between_is : (z u w m n : ℤ) → m ≡ int_min u w → n ≡ int_max u w → le_z m z ≡ true → (le_z z n ≡ true → IsBetween z u w) × (IsBetween z u w → le_z z n ≡ true)
between_is z u w m n e f h = (λ t. record { least = subst (λ (v : ℤ). v ≤ℤ z) e (le_true m z h); greatest = subst (λ (v : ℤ). z ≤ℤ v) f (le_true z n t) }, λ b. true_le z n (subst (λ (v : ℤ). z ≤ℤ v) (sym f) b.greatest))

pub between_not : (z u w m : ℤ) → m ≡ int_min u w → le_z m z ≡ false → IsBetween z u w → ⊥
between_not z u w m e h b = clash (le_z m z) h (true_le m z (subst (λ (v : ℤ). v ≤ℤ z) (sym e) b.least))

pub spans_is : (u w y z m n : ℤ) {k l : ℤ} → k ≡ int_min u w → l ≡ int_max y z → m ≡ int_min y z → n ≡ int_max u w → le_z k l ≡ true → (le_z m n ≡ true → DoSpansMeet u w y z) × (DoSpansMeet u w y z → le_z m n ≡ true)
spans_is u w y z m n {k} {l} ek el em en h = (
  λ t. record { not_after = subst (λ (v : ℤ). v ≤ℤ int_max y z) ek (subst (λ (v : ℤ). k ≤ℤ v) el (le_true k l h)); not_before = subst (λ (v : ℤ). v ≤ℤ int_max u w) em (subst (λ (v : ℤ). m ≤ℤ v) en (le_true m n t)) },
  λ b. true_le m n (subst (λ (v : ℤ). m ≤ℤ v) (sym en) (subst (λ (v : ℤ). v ≤ℤ int_max u w) (sym em) b.not_before)),
)

pub spans_not : (u w y z : ℤ) {k l : ℤ} → k ≡ int_min u w → l ≡ int_max y z → le_z k l ≡ false → DoSpansMeet u w y z → ⊥
spans_not u w y z {k} {l} ek el h b = clash (le_z k l) h (true_le k l (subst (λ (v : ℤ). k ≤ℤ v) (sym el) (subst (λ (v : ℤ). v ≤ℤ int_max y z) (sym ek) b.not_after)))

-- the tests of two boxes
pub meet_test : (a b : Bounds) → le_z a.lo.x b.hi.x ≡ true → le_z b.lo.x a.hi.x ≡ true → le_z a.lo.y b.hi.y ≡ true → (le_z b.lo.y a.hi.y ≡ true → DoBoundsMeet a b) × (DoBoundsMeet a b → le_z b.lo.y a.hi.y ≡ true)
meet_test a b e f g = (λ h. record { first_column = le_true a.lo.x b.hi.x e; second_column = le_true b.lo.x a.hi.x f; first_row = le_true a.lo.y b.hi.y g; second_row = le_true b.lo.y a.hi.y h }, λ m. true_le b.lo.y a.hi.y m.second_row)

-- the sides of two points by the signs of their orientations
pub beside_left : (a b c d : Point) (m n : ℤ) → m ≡ orient a b c → n ≡ orient a b d → lt_z (pos 0) m ≡ true → (lt_z (pos 0) n ≡ true → AreBeside a b c d) × (AreBeside a b c d → lt_z (pos 0) n ≡ true)
beside_left a b c d m n e f h = (λ t. both_left (omega (arith, ints, e, lt_true (pos 0) m h)) (omega (arith, ints, f, lt_true (pos 0) n t)), back)
  where
    back : AreBeside a b c d → lt_z (pos 0) n ≡ true
    back (both_left i j) = true_lt (pos 0) n (omega (arith, ints, f, j))
    back (both_right i j) = absurd (omega (arith, ints, e, i, lt_true (pos 0) m h))

pub beside_right : (a b c d : Point) (m n : ℤ) → m ≡ orient a b c → n ≡ orient a b d → lt_z m (pos 0) ≡ true → (lt_z n (pos 0) ≡ true → AreBeside a b c d) × (AreBeside a b c d → lt_z n (pos 0) ≡ true)
beside_right a b c d m n e f h = (λ t. both_right (omega (arith, ints, e, lt_true m (pos 0) h)) (omega (arith, ints, f, lt_true n (pos 0) t)), back)
  where
    back : AreBeside a b c d → lt_z n (pos 0) ≡ true
    back (both_left i j) = absurd (omega (arith, ints, e, i, lt_true m (pos 0) h))
    back (both_right i j) = true_lt n (pos 0) (omega (arith, ints, f, j))

-- a product is negative where one factor is positive and the other negative
pub opposite_left : (m n p q : ℤ) → m ≡ p → n ≡ q → lt_z (pos 0) m ≡ true → (lt_z n (pos 0) ≡ true → (p *ℤ q) <ℤ pos 0) × ((p *ℤ q) <ℤ pos 0 → lt_z n (pos 0) ≡ true)
opposite_left m n p q e f h = (
  λ t. pos_mul_neg p q p_pos (omega (arith, ints, f, lt_true n (pos 0) t)),
  λ i. true_lt n (pos 0) (omega (arith, ints, f, nn_factor p q i (omega (arith, ints, p_pos)))),
)
  where
    p_pos : pos 0 <ℤ p
    p_pos = omega (arith, ints, e, lt_true (pos 0) m h)

pub opposite_right : (m n p q : ℤ) → m ≡ p → n ≡ q → lt_z m (pos 0) ≡ true → (lt_z (pos 0) n ≡ true → (p *ℤ q) <ℤ pos 0) × ((p *ℤ q) <ℤ pos 0 → lt_z (pos 0) n ≡ true)
opposite_right m n p q e f h = (
  λ t. omega (arith, ints, pos_mul_neg q p (omega (arith, ints, f, lt_true (pos 0) n t)) p_neg),
  λ i. true_lt (pos 0) n (omega (arith, ints, f, neg_factor p q i p_neg)),
)
  where
    p_neg : p <ℤ pos 0
    p_neg = omega (arith, ints, e, lt_true m (pos 0) h)

-- the test of one side
pub outside_is : (a b : Point) (e : Edge) (m n : ℤ) → m ≡ orient e.a e.b a → n ≡ orient e.a e.b b → le_z m (pos 0) ≡ true → le_z n (pos 0) ≡ is_outside a b e
outside_is a b e m n f g h = ap (λ (z : ℤ). le_z z (pos 0)) g ∙ ap (λ (r : Bool). r && le_z (orient e.a e.b b) (pos 0)) (sym (subst (λ (z : ℤ). le_z z (pos 0) ≡ true) f h))

-- the test of a corner at a side
pub not_left : (m : ℤ) {o : ℤ} → le_z m (pos 0) ≡ true → m ≡ o → pos 0 <ℤ o → ⊥
not_left m {o} h e p = omega (arith, ints, e, le_true m (pos 0) h)

pub passed_left : (m : ℤ) {o : ℤ} → le_z m (pos 0) ≡ false → m ≡ o → pos 0 <ℤ o
passed_left m {o} h e = omega (arith, ints, e, le_false m (pos 0) h)
