-- Two segments that pass one strip of rows cross if their order along the rows differs at two points (`swap_crosses`). How far one is right of the
-- other is linear in the height (`gap_three`). Stands on Lines and Signs.
use lib.IntN.{ℤ, pos, ◌+ℤ◌, ◌-ℤ◌, ◌*ℤ◌}
use lib.Signed.{◌<ℤ◌, ◌≤ℤ◌}
use mathlib.Core.Path.{◌≡◌, refl, ap, ◌∙◌}
use mathlib.Core.List.{List, [], ◌∷◌}
use mathlib.Core.Logic.{inl, inr}
use native.Mathlib.Omega.{arith}
use Rattle.std.proofs.lemmas.Int.{ints}
use Rattle.grid_geom.specs.declared.Point.{Point}
use Rattle.grid_geom.specs.declared.RatPoint.{RatPoint}
use Rattle.grid_geom.specs.Plane.{orient, orient_rat}
use Rattle.grid_geom.specs.Sides.{DoCross}
use Rattle.grid_geom.proofs.Ring.{E, var, num, ◌⊕◌, ◌⊖◌, ◌⊗◌, ring}
use Rattle.grid_geom.proofs.Signs.{nn_mul, pos_mul, nn_np_mul, np_nn_mul, pos_mul_neg, neg_mul_neg, either, ordered, pos_factor, lt_cancel}
use Rattle.grid_geom.proofs.Lines.{PointE, orientE}

-- how much further to the right a-b is than c-d, at the height y/k; times the heights of both
abbrev pub gap : Point → Point → Point → Point → ℤ → ℤ → ℤ
gap a b c d y k = (d.y -ℤ c.y) *ℤ ((b.x -ℤ a.x) *ℤ (y -ℤ a.y *ℤ k) +ℤ (b.y -ℤ a.y) *ℤ (a.x *ℤ k)) -ℤ (b.y -ℤ a.y) *ℤ ((d.x -ℤ c.x) *ℤ (y -ℤ c.y *ℤ k) +ℤ (d.y -ℤ c.y) *ℤ (c.x *ℤ k))

abbrev A : PointE
A = record { x = var 0; y = var 1; k = num (pos 1) }

abbrev B : PointE
B = record { x = var 2; y = var 3; k = num (pos 1) }

abbrev C : PointE
C = record { x = var 4; y = var 5; k = num (pos 1) }

abbrev D : PointE
D = record { x = var 6; y = var 7; k = num (pos 1) }

abbrev gapE : E → E → E
gapE y k = (D.y ⊖ C.y) ⊗ ((B.x ⊖ A.x) ⊗ (y ⊖ A.y ⊗ k) ⊕ (B.y ⊖ A.y) ⊗ (A.x ⊗ k)) ⊖ (B.y ⊖ A.y) ⊗ ((D.x ⊖ C.x) ⊗ (y ⊖ C.y ⊗ k) ⊕ (D.y ⊖ C.y) ⊗ (C.x ⊗ k))

abbrev turnE : PointE → PointE → PointE → E
turnE a b c = (b.x ⊖ a.x) ⊗ (c.y ⊖ a.y) ⊖ (b.y ⊖ a.y) ⊗ (c.x ⊖ a.x)

pub gap_is : (a b c d : Point) (q : RatPoint) → gap a b c d q.y q.k ≡ (d.y -ℤ c.y) *ℤ orient_rat a b q -ℤ (b.y -ℤ a.y) *ℤ orient_rat c d q
gap_is a b c d q = ring (a.x ∷ a.y ∷ b.x ∷ b.y ∷ c.x ∷ c.y ∷ d.x ∷ d.y ∷ q.x ∷ q.y ∷ q.k ∷ []) (gapE (var 9) (var 10))
    ((D.y ⊖ C.y) ⊗ orientE A B (record { x = var 8; y = var 9; k = var 10 }) ⊖ (B.y ⊖ A.y) ⊗ orientE C D (record { x = var 8; y = var 9; k = var 10 })) refl

abbrev eight : Point → Point → Point → Point → List ℤ
eight a b c d = a.x ∷ a.y ∷ b.x ∷ b.y ∷ c.x ∷ c.y ∷ d.x ∷ d.y ∷ []

pub gap_c : (a b c d : Point) → gap a b c d c.y (pos 1) ≡ (d.y -ℤ c.y) *ℤ orient a b c
gap_c a b c d = ring (eight a b c d) (gapE C.y (num (pos 1))) ((D.y ⊖ C.y) ⊗ turnE A B C) refl

pub gap_d : (a b c d : Point) → gap a b c d d.y (pos 1) ≡ (d.y -ℤ c.y) *ℤ orient a b d
gap_d a b c d = ring (eight a b c d) (gapE D.y (num (pos 1))) ((D.y ⊖ C.y) ⊗ turnE A B D) refl

pub gap_back : (a b c d : Point) (y k : ℤ) → gap c d a b y k ≡ pos 0 -ℤ gap a b c d y k
gap_back a b c d y k = ring (a.x ∷ a.y ∷ b.x ∷ b.y ∷ c.x ∷ c.y ∷ d.x ∷ d.y ∷ y ∷ k ∷ [])
    ((B.y ⊖ A.y) ⊗ ((D.x ⊖ C.x) ⊗ (var 8 ⊖ C.y ⊗ var 9) ⊕ (D.y ⊖ C.y) ⊗ (C.x ⊗ var 9)) ⊖ (D.y ⊖ C.y) ⊗ ((B.x ⊖ A.x) ⊗ (var 8 ⊖ A.y ⊗ var 9) ⊕ (B.y ⊖ A.y) ⊗ (A.x ⊗ var 9)))
    (num (pos 0) ⊖ gapE (var 8) (var 9)) refl

-- the gap is linear in the height: at three heights
pub gap_three : (a b c d : Point) (y k z l v : ℤ) → (k *ℤ z -ℤ l *ℤ y) *ℤ gap a b c d v (pos 1) ≡ (z -ℤ l *ℤ v) *ℤ gap a b c d y k -ℤ (y -ℤ k *ℤ v) *ℤ gap a b c d z l
gap_three a b c d y k z l v = ring (a.x ∷ a.y ∷ b.x ∷ b.y ∷ c.x ∷ c.y ∷ d.x ∷ d.y ∷ y ∷ k ∷ z ∷ l ∷ v ∷ [])
    ((var 9 ⊗ var 10 ⊖ var 11 ⊗ var 8) ⊗ gapE (var 12) (num (pos 1))) ((var 10 ⊖ var 11 ⊗ var 12) ⊗ gapE (var 8) (var 9) ⊖ (var 8 ⊖ var 9 ⊗ var 12) ⊗ gapE (var 10) (var 11)) refl

-- positive at the lower of two heights and negative at the higher one: positive below both and negative above both
low_sign : (m g f t s h : ℤ) → m *ℤ g ≡ f *ℤ t -ℤ s *ℤ h → pos 0 <ℤ m → pos 0 <ℤ f → pos 0 ≤ℤ s → pos 0 <ℤ t → h <ℤ pos 0 → pos 0 <ℤ g
low_sign m g f t s h e hm hf hs ht hh = pos_factor m g (omega (arith, ints, e, pos_mul f t hf ht, nn_np_mul s h hs (omega (arith, ints)))) (omega (arith, ints))

high_sign : (m g f t s h : ℤ) → m *ℤ g ≡ f *ℤ t -ℤ s *ℤ h → pos 0 <ℤ m → f ≤ℤ pos 0 → s <ℤ pos 0 → pos 0 <ℤ t → h <ℤ pos 0 → g <ℤ pos 0
high_sign m g f t s h e hm hf hs ht hh = elim (either (pos 0) g) [ inr n ↦ n | inl n ↦ absurd (omega (arith, ints, e, nn_mul m g (omega (arith, ints)) n, np_nn_mul f t hf (omega (arith, ints)), neg_mul_neg s h hs hh)) ]

-- both heights q and r are in the rows from a.y and c.y (with them) to b.y and d.y (without them)
pub record IsSpanned (q : RatPoint) (a b : Point) : Type 0 where
  pub rational : pos 0 <ℤ q.k
  pub low : (a.y *ℤ q.k) ≤ℤ q.y
  pub high : q.y <ℤ (b.y *ℤ q.k)

gap_level : (a b c d : Point) (y k z l : ℤ) → gap a b c d y k *ℤ l -ℤ gap a b c d z l *ℤ k ≡ ((d.y -ℤ c.y) *ℤ (b.x -ℤ a.x) -ℤ (b.y -ℤ a.y) *ℤ (d.x -ℤ c.x)) *ℤ (y *ℤ l -ℤ z *ℤ k)
gap_level a b c d y k z l = ring (a.x ∷ a.y ∷ b.x ∷ b.y ∷ c.x ∷ c.y ∷ d.x ∷ d.y ∷ y ∷ k ∷ z ∷ l ∷ [])
    (gapE (var 8) (var 9) ⊗ var 11 ⊖ gapE (var 10) (var 11) ⊗ var 9) (((D.y ⊖ C.y) ⊗ (B.x ⊖ A.x) ⊖ (B.y ⊖ A.y) ⊗ (D.x ⊖ C.x)) ⊗ (var 8 ⊗ var 11 ⊖ var 10 ⊗ var 9)) refl

-- q is left of a-b and right of c-d
pub record IsInGap (q : RatPoint) (a b c d : Point) : Type 0 where
  pub first : IsSpanned q a b
  pub second : IsSpanned q c d
  pub left : pos 0 <ℤ orient_rat a b q
  pub right : orient_rat c d q <ℤ pos 0

pub taller : (q : RatPoint) (a b : Point) → IsSpanned q a b → pos 0 <ℤ (b.y -ℤ a.y)
taller q a b h = omega (arith, ints, lt_cancel a.y b.y q.k h.rational (omega (arith, ints, h.low, h.high)))

gap_pos : (q : RatPoint) (a b c d : Point) → IsInGap q a b c d → pos 0 <ℤ gap a b c d q.y q.k
gap_pos q a b c d h = positive (gap_is a b c d q) (pos_mul (d.y -ℤ c.y) (orient_rat a b q) (taller q c d h.second) h.left) (pos_mul_neg (b.y -ℤ a.y) (orient_rat c d q) (taller q a b h.first) h.right)
  where
    positive : {g m n : ℤ} → g ≡ m -ℤ n → pos 0 <ℤ m → n <ℤ pos 0 → pos 0 <ℤ g
    positive {g} {m} {n} e h j = omega (arith, ints)

gap_neg : (q : RatPoint) (a b c d : Point) → IsInGap q c d a b → gap a b c d q.y q.k <ℤ pos 0
gap_neg q a b c d h = negative (gap_back a b c d q.y q.k) (gap_pos q c d a b h)
  where
    negative : {g m : ℤ} → m ≡ pos 0 -ℤ g → pos 0 <ℤ m → g <ℤ pos 0
    negative {g} {m} e h = omega (arith, ints)

-- heights: q lower than r; v not higher than q
below_both : (y k z l v : ℤ) → pos 0 <ℤ k → pos 0 <ℤ l → pos 0 <ℤ (k *ℤ z -ℤ l *ℤ y) → (v *ℤ k) ≤ℤ y → (pos 0 <ℤ (z -ℤ l *ℤ v)) × (pos 0 ≤ℤ (y -ℤ k *ℤ v))
below_both y k z l v hk hl h j = (pos_factor k (z -ℤ l *ℤ v) (omega (arith, ints, spread, nn_mul l (y -ℤ k *ℤ v) (omega (arith, ints)) (omega (arith, ints)))) (omega (arith, ints)), omega (arith, ints))
  where
    spread : k *ℤ (z -ℤ l *ℤ v) ≡ (k *ℤ z -ℤ l *ℤ y) +ℤ l *ℤ (y -ℤ k *ℤ v)
    spread = ring (y ∷ k ∷ z ∷ l ∷ v ∷ []) (var 1 ⊗ (var 2 ⊖ var 3 ⊗ var 4)) ((var 1 ⊗ var 2 ⊖ var 3 ⊗ var 0) ⊕ var 3 ⊗ (var 0 ⊖ var 1 ⊗ var 4)) refl

low_end : (q r : RatPoint) (a b c d : Point) (v : ℤ) → pos 0 <ℤ q.k → pos 0 <ℤ r.k → pos 0 <ℤ (q.k *ℤ r.y -ℤ r.k *ℤ q.y) → pos 0 <ℤ gap a b c d q.y q.k → gap a b c d r.y r.k <ℤ pos 0 → (v *ℤ q.k) ≤ℤ q.y → pos 0 <ℤ gap a b c d v (pos 1)
low_end q r a b c d v kq kr h gq gr j = low_sign _ _ _ _ _ _ (gap_three a b c d q.y q.k r.y r.k v) h (below_both q.y q.k r.y r.k v kq kr h j).0 (below_both q.y q.k r.y r.k v kq kr h j).1 gq gr

high_end : (q r : RatPoint) (a b c d : Point) (v : ℤ) → pos 0 <ℤ (q.k *ℤ r.y -ℤ r.k *ℤ q.y) → pos 0 <ℤ gap a b c d q.y q.k → gap a b c d r.y r.k <ℤ pos 0 → q.y <ℤ (v *ℤ q.k) → r.y <ℤ (v *ℤ r.k) → gap a b c d v (pos 1) <ℤ pos 0
high_end q r a b c d v h gq gr j l = high_sign (q.k *ℤ r.y -ℤ r.k *ℤ q.y) (gap a b c d v (pos 1)) (r.y -ℤ r.k *ℤ v) (gap a b c d q.y q.k) (q.y -ℤ q.k *ℤ v) (gap a b c d r.y r.k) (gap_three a b c d q.y q.k r.y r.k v) h (omega (arith, ints)) (omega (arith, ints)) gq gr

pub part_pos : (m n : ℤ) {g : ℤ} → g ≡ m *ℤ n → pos 0 <ℤ m → pos 0 <ℤ g → pos 0 <ℤ n
part_pos m n {g} e hm hg = pos_factor m n (omega (arith, ints, e)) (omega (arith, ints))

pub part_neg : (m n : ℤ) {g : ℤ} → g ≡ m *ℤ n → pos 0 <ℤ m → g <ℤ pos 0 → n <ℤ pos 0
part_neg m n {g} e hm hg = elim (either (pos 0) n) [ inr j ↦ j | inl j ↦ absurd (omega (arith, ints, e, nn_mul m n (omega (arith, ints)) j)) ]

swap_up : (q r : RatPoint) (a b c d : Point) → IsInGap q a b c d → IsInGap r c d a b → pos 0 <ℤ (q.k *ℤ r.y -ℤ r.k *ℤ q.y) → DoCross a b c d
swap_up q r a b c d hq hr h = record {
  ends_first = pos_mul_neg (orient a b c) (orient a b d)
      (part_pos (d.y -ℤ c.y) (orient a b c) (gap_c a b c d) (taller q c d hq.second) (low_end q r a b c d c.y hq.first.rational hr.first.rational h gq gr hq.second.low))
      (part_neg (d.y -ℤ c.y) (orient a b d) (gap_d a b c d) (taller q c d hq.second) (high_end q r a b c d d.y h gq gr hq.second.high hr.first.high));
  ends_second = neg_mul_pos (orient c d a) (orient c d b)
      (part_neg (b.y -ℤ a.y) (orient c d a) (gap_c c d a b) (taller q a b hq.first) (flip_pos (gap_back a b c d a.y (pos 1)) (low_end q r a b c d a.y hq.first.rational hr.first.rational h gq gr hq.first.low)))
      (part_pos (b.y -ℤ a.y) (orient c d b) (gap_d c d a b) (taller q a b hq.first) (flip_neg (gap_back a b c d b.y (pos 1)) (high_end q r a b c d b.y h gq gr hq.first.high hr.second.high)));
}
  where
    gq : pos 0 <ℤ gap a b c d q.y q.k
    gq = gap_pos q a b c d hq

    gr : gap a b c d r.y r.k <ℤ pos 0
    gr = gap_neg r a b c d hr

    flip_pos : {g m : ℤ} → m ≡ pos 0 -ℤ g → pos 0 <ℤ g → m <ℤ pos 0
    flip_pos {g} {m} e h = omega (arith, ints)

    flip_neg : {g m : ℤ} → m ≡ pos 0 -ℤ g → g <ℤ pos 0 → pos 0 <ℤ m
    flip_neg {g} {m} e h = omega (arith, ints)

    neg_mul_pos : (m n : ℤ) → m <ℤ pos 0 → pos 0 <ℤ n → (m *ℤ n) <ℤ pos 0
    neg_mul_pos m n hm hn = omega (arith, ints, pos_mul_neg n m hn hm)

cross_back : (a b c d : Point) → DoCross c d a b → DoCross a b c d
cross_back a b c d h = record { ends_first = h.ends_second; ends_second = h.ends_first }

no_level : (g h k l m : ℤ) → g *ℤ l -ℤ h *ℤ k ≡ m *ℤ pos 0 → pos 0 <ℤ g → h <ℤ pos 0 → pos 0 <ℤ k → pos 0 <ℤ l → ⊥
no_level g h k l m e hg hh hk hl = omega (arith, ints, pos_mul g l hg hl, pos_mul_neg k h hk hh)

-- two segments through the same rows whose order along the rows differs at two points cross
pub swap_crosses : (q r : RatPoint) (a b c d : Point) → IsInGap q a b c d → IsInGap r c d a b → DoCross a b c d
swap_crosses q r a b c d hq hr = elim (ordered (pos 0) (q.k *ℤ r.y -ℤ r.k *ℤ q.y)) [
  | inl h ↦ swap_up q r a b c d hq hr h
  | inr s ↦ elim s [
    | inl e ↦ absurd (no_level (gap a b c d q.y q.k) (gap a b c d r.y r.k) q.k r.k ((d.y -ℤ c.y) *ℤ (b.x -ℤ a.x) -ℤ (b.y -ℤ a.y) *ℤ (d.x -ℤ c.x))
        (gap_level a b c d q.y q.k r.y r.k ∙ ap (λ (z : ℤ). ((d.y -ℤ c.y) *ℤ (b.x -ℤ a.x) -ℤ (b.y -ℤ a.y) *ℤ (d.x -ℤ c.x)) *ℤ z) (level e)) (gap_pos q a b c d hq) (gap_neg r a b c d hr) hq.first.rational hr.first.rational)
    | inr h ↦ cross_back a b c d (swap_up r q c d a b hr hq (lower h))
  ]
]
  where
    level : pos 0 ≡ q.k *ℤ r.y -ℤ r.k *ℤ q.y → q.y *ℤ r.k -ℤ r.y *ℤ q.k ≡ pos 0
    level e = omega (arith, ints)

    lower : (q.k *ℤ r.y -ℤ r.k *ℤ q.y) <ℤ pos 0 → pos 0 <ℤ (r.k *ℤ q.y -ℤ q.k *ℤ r.y)
    lower h = omega (arith, ints)
