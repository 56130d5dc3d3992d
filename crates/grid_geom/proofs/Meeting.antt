-- Two segments, one of them between grid points, have a rational point in common or a line between them (`separate_or_meet`). The parts are of use
-- alone: where the lines cross (`crossing_point`), and what is beyond an end of a segment (`beyond_or_meet`). Stands on Lines and Signs.
use lib.IntN.{ℤ, pos, ◌+ℤ◌, ◌-ℤ◌, ◌*ℤ◌}
use lib.Signed.{◌<ℤ◌, ◌≤ℤ◌}
use mathlib.Core.Path.{◌≡◌, refl, sym, ap, ◌∙◌, subst}
use mathlib.Core.List.{List, [], ◌∷◌}
use mathlib.Core.Logic.{◌⊎◌, inl, inr}
use native.Mathlib.Omega.{arith}
use Rattle.std.proofs.lemmas.Int.{ints}
use Rattle.grid_geom.specs.declared.Point.{Point}
use Rattle.grid_geom.specs.declared.RatPoint.{RatPoint}
use Rattle.grid_geom.specs.Plane.{orient_rat}
use Rattle.grid_geom.specs.Line.{Line, side, whole, through}
use Rattle.grid_geom.specs.Segment.{IsOnSegment, DoMeet, IsSeparated}
use Rattle.grid_geom.proofs.Ring.{E, var, num, ◌⊕◌, ◌⊖◌, ◌⊗◌, ring}
use Rattle.grid_geom.proofs.Signs.{nn_mul, pos_mul, np_mul, nn_np_mul, pos_mul_neg, neg_mul_neg, either, ordered, le_cancel}
use Rattle.grid_geom.proofs.Lines.{PointE, orientE, detE, minus, det, above, through_is, orient_back, det_back}

abbrev P : PointE
P = record { x = var 0; y = var 1; k = var 2 }

abbrev Q : PointE
Q = record { x = var 3; y = var 4; k = var 5 }

abbrev C : PointE
C = record { x = var 6; y = var 7; k = num (pos 1) }

abbrev D : PointE
D = record { x = var 8; y = var 9; k = num (pos 1) }

abbrev ten : RatPoint → RatPoint → Point → Point → List ℤ
ten p q c d = p.x ∷ p.y ∷ p.k ∷ q.x ∷ q.y ∷ q.k ∷ c.x ∷ c.y ∷ d.x ∷ d.y ∷ []

-- ---- where the two lines cross
pub crossing_x : (p q : RatPoint) (c d : Point) → orient_rat c d p *ℤ q.x -ℤ orient_rat c d q *ℤ p.x ≡ det p q (whole d) *ℤ c.x -ℤ det p q (whole c) *ℤ d.x
crossing_x p q c d = ring (ten p q c d) (orientE C D P ⊗ Q.x ⊖ orientE C D Q ⊗ P.x) (detE P Q D ⊗ C.x ⊖ detE P Q C ⊗ D.x) refl

pub crossing_y : (p q : RatPoint) (c d : Point) → orient_rat c d p *ℤ q.y -ℤ orient_rat c d q *ℤ p.y ≡ det p q (whole d) *ℤ c.y -ℤ det p q (whole c) *ℤ d.y
crossing_y p q c d = ring (ten p q c d) (orientE C D P ⊗ Q.y ⊖ orientE C D Q ⊗ P.y) (detE P Q D ⊗ C.y ⊖ detE P Q C ⊗ D.y) refl

pub crossing_k : (p q : RatPoint) (c d : Point) → orient_rat c d p *ℤ q.k -ℤ orient_rat c d q *ℤ p.k ≡ det p q (whole d) -ℤ det p q (whole c)
crossing_k p q c d = ring (ten p q c d) (orientE C D P ⊗ Q.k ⊖ orientE C D Q ⊗ P.k) (detE P Q D ⊖ detE P Q C) refl

-- the line through p and q, moved a little so that both are on its left
abbrev beside : RatPoint → RatPoint → Line
beside p q = record { a = pos 0 -ℤ above p q; b = p.k *ℤ q.x -ℤ q.k *ℤ p.x; c = p.x *ℤ q.y -ℤ p.y *ℤ q.x +ℤ pos 1 }

beside_is : (p q r : RatPoint) → side (beside p q) r ≡ det p q r +ℤ r.k
beside_is p q r = ring (p.x ∷ p.y ∷ p.k ∷ q.x ∷ q.y ∷ q.k ∷ r.x ∷ r.y ∷ r.k ∷ [])
    ((num (pos 0) ⊖ minus P Q) ⊗ R.x ⊕ (P.k ⊗ Q.x ⊖ Q.k ⊗ P.x) ⊗ R.y ⊕ (P.x ⊗ Q.y ⊖ P.y ⊗ Q.x ⊕ num (pos 1)) ⊗ R.k) (detE P Q R ⊕ R.k) refl
  where
    R : PointE
    R = record { x = var 6; y = var 7; k = var 8 }

det_first : (p q : RatPoint) → det p q p ≡ pos 0
det_first p q = ring (p.x ∷ p.y ∷ p.k ∷ q.x ∷ q.y ∷ q.k ∷ []) (detE P Q P) (num (pos 0)) refl

det_second : (p q : RatPoint) → det p q q ≡ pos 0
det_second p q = ring (p.x ∷ p.y ∷ p.k ∷ q.x ∷ q.y ∷ q.k ∷ []) (detE P Q Q) (num (pos 0)) refl

-- both ends strictly right of p-q
pub right_of_both : (p q : RatPoint) (c d : Point) → pos 0 <ℤ p.k → pos 0 <ℤ q.k → det p q (whole c) <ℤ pos 0 → det p q (whole d) <ℤ pos 0 → IsSeparated p q (whole c) (whole d)
right_of_both p q c d kp kq hc hd = record {
  line = beside p q;
  c_right = shift (det p q (whole c)) (beside_is p q (whole c)) hc;
  d_right = shift (det p q (whole d)) (beside_is p q (whole d)) hd;
  p_left = raise (det p q p) p.k (beside_is p q p) (det_first p q) kp;
  q_left = raise (det p q q) q.k (beside_is p q q) (det_second p q) kq;
}
  where
    shift : {s : ℤ} (o : ℤ) → s ≡ o +ℤ pos 1 → o <ℤ pos 0 → s ≤ℤ pos 0
    shift {s} o e h = omega (arith, ints)

    raise : {s : ℤ} (o k : ℤ) → s ≡ o +ℤ k → o ≡ pos 0 → pos 0 <ℤ k → pos 0 <ℤ s
    raise {s} o k e f h = omega (arith, ints)

pub swap_first : (p q c d : RatPoint) → IsSeparated p q c d → IsSeparated q p c d
swap_first p q c d h = record { line = h.line; c_right = h.c_right; d_right = h.d_right; p_left = h.q_left; q_left = h.p_left }

abbrev pub on_back : (m p q : RatPoint) → IsOnSegment m p q → IsOnSegment m q p
on_back m p q h = record {
  of_p = h.of_q;
  of_q = h.of_p;
  p_weight = h.q_weight;
  q_weight = h.p_weight;
  weighted = other h.of_p h.of_q h.weighted;
  mean_x = swapped m.x m.k (h.of_p *ℤ p.k) (h.of_q *ℤ q.k) (h.of_p *ℤ p.x) (h.of_q *ℤ q.x) h.mean_x;
  mean_y = swapped m.y m.k (h.of_p *ℤ p.k) (h.of_q *ℤ q.k) (h.of_p *ℤ p.y) (h.of_q *ℤ q.y) h.mean_y;
}
  where
    other : (s t : ℤ) → pos 0 <ℤ (s +ℤ t) → pos 0 <ℤ (t +ℤ s)
    other s t h = omega (arith, ints)

    sum_turn : (a b : ℤ) → a +ℤ b ≡ b +ℤ a
    sum_turn a b = omega (arith, ints)

    swapped : (x k a b c d : ℤ) → x *ℤ (a +ℤ b) ≡ k *ℤ (c +ℤ d) → x *ℤ (b +ℤ a) ≡ k *ℤ (d +ℤ c)
    swapped x k a b c d e = ap (λ (z : ℤ). x *ℤ z) (sum_turn b a) ∙ e ∙ ap (λ (z : ℤ). k *ℤ z) (sum_turn c d)

pub meet_back : (p q c d : RatPoint) → DoMeet p q c d → DoMeet q p c d
meet_back p q c d h = record { at = h.at; rational = h.rational; on_first = on_back h.at p q h.on_first; on_second = h.on_second }

pub mixed_pos : (r s k l : ℤ) → pos 0 ≤ℤ r → s ≤ℤ pos 0 → pos 0 <ℤ (r -ℤ s) → pos 0 <ℤ k → pos 0 <ℤ l → pos 0 <ℤ (r *ℤ l -ℤ s *ℤ k)
mixed_pos r s k l hr hs d hk hl = elim (either r (pos 0)) [
  | inr n ↦ omega (arith, ints, pos_mul r l n hl, nn_np_mul k s (omega (arith, ints)) hs)
  | inl n ↦ omega (arith, ints, nn_mul r l hr (omega (arith, ints)), pos_mul_neg k s hk (omega (arith, ints)))
]

-- p on the closed left of c-d and q on its closed right, not both on it; d on the closed left of p-q and c on its closed right: the lines cross in a point of both
pub crossing_point : (p q : RatPoint) (c d : Point) → pos 0 <ℤ p.k → pos 0 <ℤ q.k → pos 0 ≤ℤ orient_rat c d p → orient_rat c d q ≤ℤ pos 0 → pos 0 <ℤ (orient_rat c d p -ℤ orient_rat c d q) →
    pos 0 ≤ℤ det p q (whole d) → det p q (whole c) ≤ℤ pos 0 → DoMeet p q (whole c) (whole d)
crossing_point p q c d kp kq hp hq some n m = record {
  at = record { x = orient_rat c d p *ℤ q.x -ℤ orient_rat c d q *ℤ p.x; y = orient_rat c d p *ℤ q.y -ℤ orient_rat c d q *ℤ p.y; k = orient_rat c d p *ℤ q.k -ℤ orient_rat c d q *ℤ p.k };
  rational = there;
  on_first = record {
    of_p = pos 0 -ℤ orient_rat c d q;
    of_q = orient_rat c d p;
    p_weight = omega (arith, ints);
    q_weight = hp;
    weighted = omega (arith, ints);
    mean_x = mixed (orient_rat c d p) (orient_rat c d q) p.x q.x p.k q.k;
    mean_y = mixed (orient_rat c d p) (orient_rat c d q) p.y q.y p.k q.k;
  };
  on_second = record {
    of_p = det p q (whole d);
    of_q = pos 0 -ℤ det p q (whole c);
    p_weight = n;
    q_weight = omega (arith, ints);
    weighted = omega (arith, ints, ks, there);
    mean_x = weighed (orient_rat c d p *ℤ q.x -ℤ orient_rat c d q *ℤ p.x) (orient_rat c d p *ℤ q.k -ℤ orient_rat c d q *ℤ p.k) (det p q (whole d)) (det p q (whole c)) c.x d.x (crossing_x p q c d) (crossing_k p q c d);
    mean_y = weighed (orient_rat c d p *ℤ q.y -ℤ orient_rat c d q *ℤ p.y) (orient_rat c d p *ℤ q.k -ℤ orient_rat c d q *ℤ p.k) (det p q (whole d)) (det p q (whole c)) c.y d.y (crossing_y p q c d) (crossing_k p q c d);
  };
}
  where
    there : pos 0 <ℤ (orient_rat c d p *ℤ q.k -ℤ orient_rat c d q *ℤ p.k)
    there = mixed_pos (orient_rat c d p) (orient_rat c d q) p.k q.k hp hq some kp kq

    ks : pos 0 <ℤ (det p q (whole d) -ℤ det p q (whole c))
    ks = subst (λ (z : ℤ). pos 0 <ℤ z) (crossing_k p q c d) there

    mixed : (r s a b j l : ℤ) → (r *ℤ b -ℤ s *ℤ a) *ℤ ((pos 0 -ℤ s) *ℤ j +ℤ r *ℤ l) ≡ (r *ℤ l -ℤ s *ℤ j) *ℤ ((pos 0 -ℤ s) *ℤ a +ℤ r *ℤ b)
    mixed r s a b j l = ring (r ∷ s ∷ a ∷ b ∷ j ∷ l ∷ []) ((var 0 ⊗ var 3 ⊖ var 1 ⊗ var 2) ⊗ ((num (pos 0) ⊖ var 1) ⊗ var 4 ⊕ var 0 ⊗ var 5)) ((var 0 ⊗ var 5 ⊖ var 1 ⊗ var 4) ⊗ ((num (pos 0) ⊖ var 1) ⊗ var 2 ⊕ var 0 ⊗ var 3)) refl

    weighed : (m k e f a b : ℤ) → m ≡ e *ℤ a -ℤ f *ℤ b → k ≡ e -ℤ f → m *ℤ (e *ℤ pos 1 +ℤ (pos 0 -ℤ f) *ℤ pos 1) ≡ k *ℤ (e *ℤ a +ℤ (pos 0 -ℤ f) *ℤ b)
    weighed m k e f a b h j = ap (λ (z : ℤ). z *ℤ (e *ℤ pos 1 +ℤ (pos 0 -ℤ f) *ℤ pos 1)) h
        ∙ ring (e ∷ f ∷ a ∷ b ∷ []) ((var 0 ⊗ var 2 ⊖ var 1 ⊗ var 3) ⊗ (var 0 ⊗ num (pos 1) ⊕ (num (pos 0) ⊖ var 1) ⊗ num (pos 1))) ((var 0 ⊖ var 1) ⊗ (var 0 ⊗ var 2 ⊕ (num (pos 0) ⊖ var 1) ⊗ var 3)) refl
        ∙ ap (λ (z : ℤ). z *ℤ (e *ℤ a +ℤ (pos 0 -ℤ f) *ℤ b)) (sym j)

-- how far the one end is left of the other's line
pub rising_ends : (p q : RatPoint) (c d : Point) → pos 0 <ℤ p.k → pos 0 <ℤ q.k → pos 0 ≤ℤ orient_rat c d p → orient_rat c d q ≤ℤ pos 0 → pos 0 <ℤ (orient_rat c d p -ℤ orient_rat c d q) → pos 0 <ℤ (det p q (whole d) -ℤ det p q (whole c))
rising_ends p q c d kp kq hp hq some = subst (λ (z : ℤ). pos 0 <ℤ z) (crossing_k p q c d) (mixed_pos (orient_rat c d p) (orient_rat c d q) p.k q.k hp hq some kp kq)

-- p on the closed left of c-d, q on its closed right, and not both on it
lines_cross : (p q : RatPoint) (c d : Point) → pos 0 <ℤ p.k → pos 0 <ℤ q.k → pos 0 ≤ℤ orient_rat c d p → orient_rat c d q ≤ℤ pos 0 → pos 0 <ℤ (orient_rat c d p -ℤ orient_rat c d q) →
    IsSeparated p q (whole c) (whole d) ⊎ DoMeet p q (whole c) (whole d)
lines_cross p q c d kp kq hp hq some = elim (either (pos 0) (det p q (whole d))) [
  | inr n ↦ inl (right_of_both p q c d kp kq (omega (arith, ints, rising_ends p q c d kp kq hp hq some)) n)
  | inl n ↦ elim (either (det p q (whole c)) (pos 0)) [
    | inr m ↦ inl (swap_first q p (whole c) (whole d) (right_of_both q p c d kq kp (omega (arith, ints, det_back p q (whole c))) (omega (arith, ints, rising_ends p q c d kp kq hp hq some, det_back p q (whole d)))))
    | inl m ↦ inr (crossing_point p q c d kp kq hp hq some n m)
  ]
]

-- ---- all on one line
-- what is beyond d, seen from c
abbrev pub beyond : Point → Point → Line
beyond c d = record { a = d.x -ℤ c.x; b = d.y -ℤ c.y; c = pos 0 -ℤ (d.x -ℤ c.x) *ℤ d.x -ℤ (d.y -ℤ c.y) *ℤ d.y }

abbrev pub beyondE : PointE → PointE → PointE → E
beyondE c d p = (d.x ⊖ c.x) ⊗ p.x ⊕ (d.y ⊖ c.y) ⊗ p.y ⊕ (num (pos 0) ⊖ (d.x ⊖ c.x) ⊗ d.x ⊖ (d.y ⊖ c.y) ⊗ d.y) ⊗ p.k

abbrev pub squared : Point → Point → ℤ
squared c d = (d.x -ℤ c.x) *ℤ (d.x -ℤ c.x) +ℤ (d.y -ℤ c.y) *ℤ (d.y -ℤ c.y)

abbrev pub squaredE : PointE → PointE → E
squaredE c d = (d.x ⊖ c.x) ⊗ (d.x ⊖ c.x) ⊕ (d.y ⊖ c.y) ⊗ (d.y ⊖ c.y)

pub beyond_end : (c d : Point) → side (beyond c d) (whole d) ≡ pos 0
beyond_end c d = ring (pos 0 ∷ pos 0 ∷ pos 0 ∷ pos 0 ∷ pos 0 ∷ pos 0 ∷ c.x ∷ c.y ∷ d.x ∷ d.y ∷ []) (beyondE C D D) (num (pos 0)) refl

pub beyond_start : (c d : Point) → side (beyond c d) (whole c) ≡ pos 0 -ℤ squared c d
beyond_start c d = ring (pos 0 ∷ pos 0 ∷ pos 0 ∷ pos 0 ∷ pos 0 ∷ pos 0 ∷ c.x ∷ c.y ∷ d.x ∷ d.y ∷ []) (beyondE C D C) (num (pos 0) ⊖ squaredE C D) refl

abbrev pub one_place : RatPoint → Point → Point → List ℤ
one_place p c d = p.x ∷ p.y ∷ p.k ∷ pos 0 ∷ pos 0 ∷ pos 0 ∷ c.x ∷ c.y ∷ d.x ∷ d.y ∷ []

pub both_beyond : (c d : Point) (p : RatPoint) → side (beyond c d) p +ℤ side (beyond d c) p ≡ pos 0 -ℤ squared c d *ℤ p.k
both_beyond c d p = ring (one_place p c d) (beyondE C D P ⊕ beyondE D C P) (num (pos 0) ⊖ squaredE C D ⊗ P.k) refl

pub place_x : (c d : Point) (p : RatPoint) → squared c d *ℤ (p.x -ℤ d.x *ℤ p.k) ≡ (d.x -ℤ c.x) *ℤ side (beyond c d) p -ℤ (d.y -ℤ c.y) *ℤ orient_rat c d p
place_x c d p = ring (one_place p c d) (squaredE C D ⊗ (P.x ⊖ D.x ⊗ P.k)) ((D.x ⊖ C.x) ⊗ beyondE C D P ⊖ (D.y ⊖ C.y) ⊗ orientE C D P) refl

pub place_y : (c d : Point) (p : RatPoint) → squared c d *ℤ (p.y -ℤ d.y *ℤ p.k) ≡ (d.y -ℤ c.y) *ℤ side (beyond c d) p -ℤ (pos 0 -ℤ (d.x -ℤ c.x)) *ℤ orient_rat c d p
place_y c d p = ring (one_place p c d) (squaredE C D ⊗ (P.y ⊖ D.y ⊗ P.k)) ((D.y ⊖ C.y) ⊗ beyondE C D P ⊖ (num (pos 0) ⊖ (D.x ⊖ C.x)) ⊗ orientE C D P) refl

pub nn_square : (z : ℤ) → pos 0 ≤ℤ (z *ℤ z)
nn_square z = elim (either (pos 0) z) [ inl n ↦ nn_mul z z n n | inr n ↦ np_mul z z (omega (arith, ints)) (omega (arith, ints)) ]

pub pos_square : (z : ℤ) → ¬ (z ≡ pos 0) → pos 0 <ℤ (z *ℤ z)
pos_square z n = elim (ordered z (pos 0)) [ inl h ↦ neg_mul_neg z z h h | inr r ↦ elim r [ inl e ↦ absurd (n e) | inr h ↦ pos_mul z z h h ] ]

pub squared_pos : (c d : Point) → ¬ (c ≡ d) → pos 0 <ℤ squared c d
squared_pos c d n = elim (ordered c.x d.x) [
  | inl h ↦ omega (arith, ints, pos_square (d.x -ℤ c.x) (λ e. omega (arith, ints)), nn_square (d.y -ℤ c.y))
  | inr r ↦ elim r [
    | inr h ↦ omega (arith, ints, pos_square (d.x -ℤ c.x) (λ e. omega (arith, ints)), nn_square (d.y -ℤ c.y))
    | inl e ↦ omega (arith, ints, nn_square (d.x -ℤ c.x), pos_square (d.y -ℤ c.y) (λ f. n (alike e (omega (arith, ints)))))
  ]
]
  where
    alike : c.x ≡ d.x → c.y ≡ d.y → c ≡ d
    alike e f = ap (λ (z : ℤ). record { x = z; y = c.y }) e ∙ ap (λ (z : ℤ). record { x = d.x; y = z }) f

-- a common multiple: d lies between p and q
between_x : (n b c e u v z k l m : ℤ) → n *ℤ (u -ℤ z *ℤ k) ≡ e *ℤ b -ℤ m *ℤ pos 0 → n *ℤ (v -ℤ z *ℤ l) ≡ e *ℤ c -ℤ m *ℤ pos 0 → pos 0 <ℤ n → z *ℤ ((pos 0 -ℤ c) *ℤ k +ℤ b *ℤ l) ≡ pos 1 *ℤ ((pos 0 -ℤ c) *ℤ u +ℤ b *ℤ v)
between_x n b c e u v z k l m h j hn = equal (z *ℤ ((pos 0 -ℤ c) *ℤ k +ℤ b *ℤ l)) (pos 1 *ℤ ((pos 0 -ℤ c) *ℤ u +ℤ b *ℤ v)) (multiplied ∙ ap (λ (w : ℤ). c *ℤ w -ℤ b *ℤ (n *ℤ (v -ℤ z *ℤ l))) h ∙ ap (λ (w : ℤ). c *ℤ (e *ℤ b -ℤ m *ℤ pos 0) -ℤ b *ℤ w) j
    ∙ ring (n ∷ b ∷ c ∷ e ∷ m ∷ []) (var 2 ⊗ (var 3 ⊗ var 1 ⊖ var 4 ⊗ num (pos 0)) ⊖ var 1 ⊗ (var 3 ⊗ var 2 ⊖ var 4 ⊗ num (pos 0))) (num (pos 0)) refl)
  where
    multiplied : (z *ℤ ((pos 0 -ℤ c) *ℤ k +ℤ b *ℤ l) -ℤ pos 1 *ℤ ((pos 0 -ℤ c) *ℤ u +ℤ b *ℤ v)) *ℤ n ≡ c *ℤ (n *ℤ (u -ℤ z *ℤ k)) -ℤ b *ℤ (n *ℤ (v -ℤ z *ℤ l))
    multiplied = ring (n ∷ b ∷ c ∷ u ∷ v ∷ z ∷ k ∷ l ∷ []) ((var 5 ⊗ ((num (pos 0) ⊖ var 2) ⊗ var 6 ⊕ var 1 ⊗ var 7) ⊖ num (pos 1) ⊗ ((num (pos 0) ⊖ var 2) ⊗ var 3 ⊕ var 1 ⊗ var 4)) ⊗ var 0)
        (var 2 ⊗ (var 0 ⊗ (var 3 ⊖ var 5 ⊗ var 6)) ⊖ var 1 ⊗ (var 0 ⊗ (var 4 ⊖ var 5 ⊗ var 7))) refl

    equal : (x y : ℤ) → (x -ℤ y) *ℤ n ≡ pos 0 → x ≡ y
    equal x y e = omega (arith, ints, le_cancel (x -ℤ y) (pos 0) n hn (omega (arith, ints, e)), le_cancel (pos 0) (x -ℤ y) n hn (omega (arith, ints, e)))

-- p beyond d and q not: d is on the segment of p and q
end_between : (p q : RatPoint) (c d : Point) → ¬ (c ≡ d) → orient_rat c d p ≡ pos 0 → orient_rat c d q ≡ pos 0 → pos 0 <ℤ side (beyond c d) p → side (beyond c d) q ≤ℤ pos 0 → IsOnSegment (whole d) p q
end_between p q c d n ep eq hp hq = record {
  of_p = pos 0 -ℤ side (beyond c d) q;
  of_q = side (beyond c d) p;
  p_weight = negated hq;
  q_weight = weak hp;
  weighted = summed hp hq;
  mean_x = between_x (squared c d) (side (beyond c d) p) (side (beyond c d) q) (d.x -ℤ c.x) p.x q.x d.x p.k q.k (d.y -ℤ c.y)
      (place_x c d p ∙ ap (λ (z : ℤ). (d.x -ℤ c.x) *ℤ side (beyond c d) p -ℤ (d.y -ℤ c.y) *ℤ z) ep) (place_x c d q ∙ ap (λ (z : ℤ). (d.x -ℤ c.x) *ℤ side (beyond c d) q -ℤ (d.y -ℤ c.y) *ℤ z) eq) (squared_pos c d n);
  mean_y = between_x (squared c d) (side (beyond c d) p) (side (beyond c d) q) (d.y -ℤ c.y) p.y q.y d.y p.k q.k (pos 0 -ℤ (d.x -ℤ c.x))
      (place_y c d p ∙ ap (λ (z : ℤ). (d.y -ℤ c.y) *ℤ side (beyond c d) p -ℤ (pos 0 -ℤ (d.x -ℤ c.x)) *ℤ z) ep) (place_y c d q ∙ ap (λ (z : ℤ). (d.y -ℤ c.y) *ℤ side (beyond c d) q -ℤ (pos 0 -ℤ (d.x -ℤ c.x)) *ℤ z) eq) (squared_pos c d n);
}
  where
    negated : {z : ℤ} → z ≤ℤ pos 0 → pos 0 ≤ℤ (pos 0 -ℤ z)
    negated {z} h = omega (arith, ints)

    weak : {z : ℤ} → pos 0 <ℤ z → pos 0 ≤ℤ z
    weak {z} h = omega (arith, ints)

    summed : {y z : ℤ} → pos 0 <ℤ y → z ≤ℤ pos 0 → pos 0 <ℤ ((pos 0 -ℤ z) +ℤ y)
    summed {y} {z} h j = omega (arith, ints)

within_x : (c d : Point) (p : RatPoint) → p.x *ℤ ((pos 0 -ℤ side (beyond c d) p) *ℤ pos 1 +ℤ (pos 0 -ℤ side (beyond d c) p) *ℤ pos 1) ≡ p.k *ℤ ((pos 0 -ℤ side (beyond c d) p) *ℤ c.x +ℤ (pos 0 -ℤ side (beyond d c) p) *ℤ d.x) -ℤ (p.k *ℤ (d.y -ℤ c.y)) *ℤ orient_rat c d p
within_x c d p = ring (one_place p c d) (P.x ⊗ ((num (pos 0) ⊖ beyondE C D P) ⊗ num (pos 1) ⊕ (num (pos 0) ⊖ beyondE D C P) ⊗ num (pos 1)))
    (P.k ⊗ ((num (pos 0) ⊖ beyondE C D P) ⊗ C.x ⊕ (num (pos 0) ⊖ beyondE D C P) ⊗ D.x) ⊖ (P.k ⊗ (D.y ⊖ C.y)) ⊗ orientE C D P) refl

within_y : (c d : Point) (p : RatPoint) → p.y *ℤ ((pos 0 -ℤ side (beyond c d) p) *ℤ pos 1 +ℤ (pos 0 -ℤ side (beyond d c) p) *ℤ pos 1) ≡ p.k *ℤ ((pos 0 -ℤ side (beyond c d) p) *ℤ c.y +ℤ (pos 0 -ℤ side (beyond d c) p) *ℤ d.y) -ℤ (p.k *ℤ (c.x -ℤ d.x)) *ℤ orient_rat c d p
within_y c d p = ring (one_place p c d) (P.y ⊗ ((num (pos 0) ⊖ beyondE C D P) ⊗ num (pos 1) ⊕ (num (pos 0) ⊖ beyondE D C P) ⊗ num (pos 1)))
    (P.k ⊗ ((num (pos 0) ⊖ beyondE C D P) ⊗ C.y ⊕ (num (pos 0) ⊖ beyondE D C P) ⊗ D.y) ⊖ (P.k ⊗ (C.x ⊖ D.x)) ⊗ orientE C D P) refl

drop_zero : (a b m o : ℤ) → a ≡ b -ℤ m *ℤ o → o ≡ pos 0 → a ≡ b
drop_zero a b m o e h = e ∙ ap (λ (z : ℤ). b -ℤ m *ℤ z) h ∙ ring (b ∷ m ∷ []) (var 0 ⊖ var 1 ⊗ num (pos 0)) (var 0) refl

-- p on the line, and beyond neither end
pub within : (c d : Point) (p : RatPoint) → ¬ (c ≡ d) → pos 0 <ℤ p.k → orient_rat c d p ≡ pos 0 → side (beyond c d) p ≤ℤ pos 0 → side (beyond d c) p ≤ℤ pos 0 → IsOnSegment p (whole c) (whole d)
within c d p n kp e h j = record {
  of_p = pos 0 -ℤ side (beyond c d) p;
  of_q = pos 0 -ℤ side (beyond d c) p;
  p_weight = negated h;
  q_weight = negated j;
  weighted = summed (side (beyond c d) p) (side (beyond d c) p) (squared c d *ℤ p.k) (both_beyond c d p) (pos_mul (squared c d) p.k (squared_pos c d n) kp);
  mean_x = drop_zero _ _ (p.k *ℤ (d.y -ℤ c.y)) (orient_rat c d p) (within_x c d p) e;
  mean_y = drop_zero _ _ (p.k *ℤ (c.x -ℤ d.x)) (orient_rat c d p) (within_y c d p) e;
}
  where
    negated : {z : ℤ} → z ≤ℤ pos 0 → pos 0 ≤ℤ (pos 0 -ℤ z)
    negated {z} h = omega (arith, ints)

    summed : (a b m : ℤ) → a +ℤ b ≡ pos 0 -ℤ m → pos 0 <ℤ m → pos 0 <ℤ ((pos 0 -ℤ a) +ℤ (pos 0 -ℤ b))
    summed a b m e h = omega (arith, ints)

-- an end of a segment is on it
pub first_end : (p q : RatPoint) → IsOnSegment p p q
first_end p q = record {
  of_p = pos 1;
  of_q = pos 0;
  p_weight = omega (arith, ints);
  q_weight = omega (arith, ints);
  weighted = omega (arith, ints);
  mean_x = alone p.x p.k q.k q.x;
  mean_y = alone p.y p.k q.k q.y;
}
  where
    alone : (x k l z : ℤ) → x *ℤ (pos 1 *ℤ k +ℤ pos 0 *ℤ l) ≡ k *ℤ (pos 1 *ℤ x +ℤ pos 0 *ℤ z)
    alone x k l z = ring (x ∷ k ∷ l ∷ z ∷ []) (var 0 ⊗ (num (pos 1) ⊗ var 1 ⊕ num (pos 0) ⊗ var 2)) (var 1 ⊗ (num (pos 1) ⊗ var 0 ⊕ num (pos 0) ⊗ var 3)) refl

all_beyond : (p q : RatPoint) (c d : Point) → ¬ (c ≡ d) → pos 0 <ℤ side (beyond c d) p → pos 0 <ℤ side (beyond c d) q → IsSeparated p q (whole c) (whole d)
all_beyond p q c d n hp hq = record { line = beyond c d; c_right = lowered (beyond_start c d) (squared_pos c d n); d_right = level (beyond_end c d); p_left = hp; q_left = hq }
  where
    level : {z : ℤ} → z ≡ pos 0 → z ≤ℤ pos 0
    level {z} e = omega (arith, ints)

    lowered : {z m : ℤ} → z ≡ pos 0 -ℤ m → pos 0 <ℤ m → z ≤ℤ pos 0
    lowered {z} {m} e h = omega (arith, ints)

-- the same line the other way
pub end_swap : (p q c d : RatPoint) → IsSeparated p q c d → IsSeparated p q d c
end_swap p q c d h = record { line = h.line; c_right = h.d_right; d_right = h.c_right; p_left = h.p_left; q_left = h.q_left }

-- both points are strictly beyond one end of a segment
pub data AreBeyond (p q : RatPoint) (c d : Point) : Type 0 where
  beyond_d : pos 0 <ℤ side (beyond c d) p → pos 0 <ℤ side (beyond c d) q → AreBeyond p q c d
  beyond_c : pos 0 <ℤ side (beyond d c) p → pos 0 <ℤ side (beyond d c) q → AreBeyond p q c d

pub beyond_or_meet : (p q : RatPoint) (c d : Point) → ¬ (c ≡ d) → pos 0 <ℤ p.k → pos 0 <ℤ q.k → orient_rat c d p ≡ pos 0 → orient_rat c d q ≡ pos 0 → AreBeyond p q c d ⊎ DoMeet p q (whole c) (whole d)
beyond_or_meet p q c d n kp kq ep eq = elim (either (side (beyond c d) p) (pos 0)) [
  | inr hp ↦ elim (either (side (beyond c d) q) (pos 0)) [
    | inr hq ↦ inl (beyond_d hp hq)
    | inl hq ↦ inr (record { at = whole d; rational = omega (arith, ints); on_first = end_between p q c d n ep eq hp hq; on_second = on_back (whole d) (whole d) (whole c) (first_end (whole d) (whole c)) })
  ]
  | inl hp ↦ elim (either (side (beyond c d) q) (pos 0)) [
    | inr hq ↦ inr (record { at = whole d; rational = omega (arith, ints); on_first = on_back (whole d) q p (end_between q p c d n eq ep hq hp); on_second = on_back (whole d) (whole d) (whole c) (first_end (whole d) (whole c)) })
    | inl hq ↦ elim (either (side (beyond d c) p) (pos 0)) [
      | inl jp ↦ inr (record { at = p; rational = kp; on_first = first_end p q; on_second = within c d p n kp ep hp jp })
      | inr jp ↦ elim (either (side (beyond d c) q) (pos 0)) [
        | inr jq ↦ inl (beyond_c jp jq)
        | inl jq ↦ inr (record { at = whole c; rational = omega (arith, ints); on_first = end_between p q d c (λ e. n (sym e)) (reverse ep (orient_back c d p)) (reverse eq (orient_back c d q)) jp jq; on_second = first_end (whole c) (whole d) })
      ]
    ]
  ]
]
  where
    reverse : {y z : ℤ} → z ≡ pos 0 → y ≡ pos 0 -ℤ z → y ≡ pos 0
    reverse {y} {z} e f = omega (arith, ints)

beyond_separated : (p q : RatPoint) (c d : Point) → ¬ (c ≡ d) → AreBeyond p q c d → IsSeparated p q (whole c) (whole d)
beyond_separated p q c d n (beyond_d hp hq) = all_beyond p q c d n hp hq
beyond_separated p q c d n (beyond_c hp hq) = end_swap p q (whole d) (whole c) (all_beyond p q d c (λ e. n (sym e)) hp hq)

collinear : (p q : RatPoint) (c d : Point) → ¬ (c ≡ d) → pos 0 <ℤ p.k → pos 0 <ℤ q.k → orient_rat c d p ≡ pos 0 → orient_rat c d q ≡ pos 0 → IsSeparated p q (whole c) (whole d) ⊎ DoMeet p q (whole c) (whole d)
collinear p q c d n kp kq ep eq = elim (beyond_or_meet p q c d n kp kq ep eq) [ inl h ↦ inl (beyond_separated p q c d n h) | inr h ↦ inr h ]

pub both_left : (p q : RatPoint) (c d : Point) → pos 0 <ℤ orient_rat c d p → pos 0 <ℤ orient_rat c d q → IsSeparated p q (whole c) (whole d)
both_left p q c d hp hq = record { line = through c d; c_right = ends c d c (flat_start c d); d_right = ends c d d (flat_end c d); p_left = subst (λ (z : ℤ). pos 0 <ℤ z) (sym (through_is c d p)) hp; q_left = subst (λ (z : ℤ). pos 0 <ℤ z) (sym (through_is c d q)) hq }
  where
    ends : (c d e : Point) → side (through c d) (whole e) ≡ pos 0 → side (through c d) (whole e) ≤ℤ pos 0
    ends c d e h = omega (arith, ints)

    throughE : PointE → PointE → PointE → E
    throughE c d p = (c.y ⊖ d.y) ⊗ p.x ⊕ (d.x ⊖ c.x) ⊗ p.y ⊕ (c.x ⊗ d.y ⊖ c.y ⊗ d.x) ⊗ p.k

    flat_start : (c d : Point) → side (through c d) (whole c) ≡ pos 0
    flat_start c d = ring (one_place (whole c) c d) ((C.y ⊖ D.y) ⊗ C.x ⊕ (D.x ⊖ C.x) ⊗ C.y ⊕ (C.x ⊗ D.y ⊖ C.y ⊗ D.x) ⊗ C.k) (num (pos 0)) refl

    flat_end : (c d : Point) → side (through c d) (whole d) ≡ pos 0
    flat_end c d = ring (one_place (whole c) c d) ((C.y ⊖ D.y) ⊗ D.x ⊕ (D.x ⊖ C.x) ⊗ D.y ⊕ (C.x ⊗ D.y ⊖ C.y ⊗ D.x) ⊗ D.k) (num (pos 0)) refl

-- two segments meet in a rational point, or a line parts them
pub separate_or_meet : (p q : RatPoint) (c d : Point) → ¬ (c ≡ d) → pos 0 <ℤ p.k → pos 0 <ℤ q.k → IsSeparated p q (whole c) (whole d) ⊎ DoMeet p q (whole c) (whole d)
separate_or_meet p q c d n kp kq = elim (ordered (orient_rat c d p) (pos 0)) [
  | inl hp ↦ elim (either (pos 0) (orient_rat c d q)) [
    | inl hq ↦ turned (lines_cross q p c d kq kp hq (below hp) (omega (arith, ints)))
    | inr hq ↦ inl (end_swap p q (whole d) (whole c) (both_left p q d c (omega (arith, ints, orient_back c d p)) (omega (arith, ints, orient_back c d q))))
  ]
  | inr r ↦ elim r [
    | inr hp ↦ elim (either (orient_rat c d q) (pos 0)) [
      | inl hq ↦ lines_cross p q c d kp kq (above_zero hp) hq (omega (arith, ints))
      | inr hq ↦ inl (both_left p q c d hp hq)
    ]
    | inl ep ↦ elim (ordered (orient_rat c d q) (pos 0)) [
      | inl hq ↦ lines_cross p q c d kp kq (omega (arith, ints)) (below hq) (omega (arith, ints))
      | inr s ↦ elim s [
        | inl eq ↦ collinear p q c d n kp kq ep eq
        | inr hq ↦ turned (lines_cross q p c d kq kp (above_zero hq) (omega (arith, ints)) (omega (arith, ints)))
      ]
    ]
  ]
]
  where
    below : {z : ℤ} → z <ℤ pos 0 → z ≤ℤ pos 0
    below {z} h = omega (arith, ints)

    above_zero : {z : ℤ} → pos 0 <ℤ z → pos 0 ≤ℤ z
    above_zero {z} h = omega (arith, ints)

    turned : IsSeparated q p (whole c) (whole d) ⊎ DoMeet q p (whole c) (whole d) → IsSeparated p q (whole c) (whole d) ⊎ DoMeet p q (whole c) (whole d)
    turned (inl h) = inl (swap_first q p (whole c) (whole d) h)
    turned (inr h) = inr (meet_back q p (whole c) (whole d) h)
