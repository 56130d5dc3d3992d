-- Law Jump as it is stated, by points: a segment that meets the open segment a-b from its left to its right has a and b strictly on its two sides, and an edge that it does not meet is parted from it by a line.
-- Stands on Jump, and on grid_geom's "two segments meet or a line parts them".
use lib.IntN.{ℤ, pos, ◌+ℤ◌, ◌-ℤ◌, ◌*ℤ◌}
use lib.Signed.{◌<ℤ◌, ◌≤ℤ◌}
use lib.Dec.{T}
use mathlib.Core.Path.{◌≡◌, refl, sym, ap, ◌∙◌, subst}
use mathlib.Core.Bool.{Bool, false}
use mathlib.Core.List.{List, [], ◌∷◌}
use mathlib.Core.Logic.{◌⊎◌, inl, inr}
use native.Mathlib.Omega.{arith}
use Rattle.std.proofs.lemmas.Int.{ints}
use Rattle.std.specs.List.{AllByRecursion}
use Rattle.grid_geom.specs.declared.Point.{Point}
use Rattle.grid_geom.specs.declared.RatPoint.{RatPoint}
use Rattle.grid_geom.specs.declared.Edge.{Edge}
use Rattle.grid_geom.specs.Plane.{orient_rat, IsRational}
use Rattle.grid_geom.specs.Line.{side, whole}
use Rattle.grid_geom.specs.Sides.{IsOnClosed}
use Rattle.grid_geom.specs.Segment.{IsOnSegment, DoMeet, IsSeparated}
use Rattle.grid_geom.specs.Sharing.{IsAt}
use Rattle.grid_geom.specs.Winding.{wind}
use Rattle.grid_geom.specs.Closed.{IsClosed, IsEdge}
use Rattle.grid_geom.proofs.Ring.{var, num, ◌⊕◌, ◌⊖◌, ◌⊗◌, ring}
use Rattle.grid_geom.proofs.Signs.{either, ordered, pos_mul, nn_mul, nn_np_mul, pos_mul_neg}
use Rattle.grid_geom.proofs.Lines.{det, PointE, detE}
use Rattle.grid_geom.proofs.Near.{span, span_is}
use Rattle.grid_geom.proofs.Means.{side_mean, some_weight}
use Rattle.grid_geom.proofs.Meeting.{separate_or_meet, crossing_k, mixed_pos}
use Rattle.grid_geom.proofs.OnSegment.{on_segment, on_closed}
use Rattle.wind_law.specs.Chains.{edge, same_edge, times}
use Rattle.wind_law.specs.Passing.{DoesPass, IsMissed}
use Rattle.wind_law.proofs.ClosedSums.{edge_test}
use Rattle.wind_law.proofs.Uncrossed.{IsPartedByLine}
use Rattle.wind_law.proofs.Jump.{IsCrossed, IsElsewhere, jump}

no_factor : (m w : ℤ) → m *ℤ w ≡ pos 0 → pos 0 <ℤ w → m ≡ pos 0
no_factor m w e h = elim (ordered m (pos 0)) [
  | inl j ↦ absurd (omega (arith, ints, e, pos_mul_neg w m h j))
  | inr r ↦ elim r [ inl j ↦ j | inr j ↦ absurd (omega (arith, ints, e, pos_mul m w j h)) ]
]

-- a-b has two ends, since p is off its line
pub one_end : (p : RatPoint) (a b : Point) → a ≡ b → orient_rat a b p ≡ pos 0
one_end p a b e = subst (λ (c : Point). orient_rat a c p ≡ pos 0) e (ring (a.x ∷ a.y ∷ p.x ∷ p.y ∷ p.k ∷ []) ((var 0 ⊖ var 0) ⊗ (var 3 ⊖ var 1 ⊗ var 4) ⊖ (var 1 ⊖ var 1) ⊗ (var 2 ⊖ var 0 ⊗ var 4)) (num (pos 0)) refl)

two_ends : (p : RatPoint) (a b : Point) → pos 0 <ℤ orient_rat a b p → ¬ (a ≡ b)
two_ends p a b h e = none h (one_end p a b e)
  where
    none : {z : ℤ} → pos 0 <ℤ z → z ≡ pos 0 → ⊥
    none {z} h e = omega (arith, ints)

-- ---- the point where they meet is a mean of a and b by two positive weights
same : (x y : ℤ) → x -ℤ y ≡ pos 0 → x ≡ y
same x y e = omega (arith, ints)

-- without weight of the first end it is at the second
at_second : (x k s t u w : ℤ) → x *ℤ (s *ℤ pos 1 +ℤ t *ℤ pos 1) ≡ k *ℤ (s *ℤ u +ℤ t *ℤ w) → s ≡ pos 0 → pos 0 <ℤ t → x ≡ w *ℤ k
at_second x k s t u w e h ht = same x (w *ℤ k) (no_factor (x -ℤ w *ℤ k) t (zero (subst (λ (s : ℤ). x *ℤ (s *ℤ pos 1 +ℤ t *ℤ pos 1) ≡ k *ℤ (s *ℤ u +ℤ t *ℤ w)) h e)) ht)
  where
    gone : (y z : ℤ) → y ≡ z → y -ℤ z ≡ pos 0
    gone y z e = omega (arith, ints)

    zero : x *ℤ (pos 0 *ℤ pos 1 +ℤ t *ℤ pos 1) ≡ k *ℤ (pos 0 *ℤ u +ℤ t *ℤ w) → (x -ℤ w *ℤ k) *ℤ t ≡ pos 0
    zero f = ring (x ∷ w ∷ k ∷ t ∷ u ∷ []) ((var 0 ⊖ var 1 ⊗ var 2) ⊗ var 3) (var 0 ⊗ (num (pos 0) ⊗ num (pos 1) ⊕ var 3 ⊗ num (pos 1)) ⊖ var 2 ⊗ (num (pos 0) ⊗ var 4 ⊕ var 3 ⊗ var 1)) refl
        ∙ gone (x *ℤ (pos 0 *ℤ pos 1 +ℤ t *ℤ pos 1)) (k *ℤ (pos 0 *ℤ u +ℤ t *ℤ w)) f

exchanged : (x k s t u w : ℤ) → x *ℤ (s *ℤ pos 1 +ℤ t *ℤ pos 1) ≡ k *ℤ (s *ℤ u +ℤ t *ℤ w) → x *ℤ (t *ℤ pos 1 +ℤ s *ℤ pos 1) ≡ k *ℤ (t *ℤ w +ℤ s *ℤ u)
exchanged x k s t u w e = ring (x ∷ s ∷ t ∷ []) (var 0 ⊗ (var 2 ⊗ num (pos 1) ⊕ var 1 ⊗ num (pos 1))) (var 0 ⊗ (var 1 ⊗ num (pos 1) ⊕ var 2 ⊗ num (pos 1))) refl ∙ e
    ∙ ring (k ∷ s ∷ t ∷ u ∷ w ∷ []) (var 0 ⊗ (var 1 ⊗ var 3 ⊕ var 2 ⊗ var 4)) (var 0 ⊗ (var 2 ⊗ var 4 ⊕ var 1 ⊗ var 3)) refl

pub weight_first : (m : RatPoint) (a b : Point) (h : IsOnSegment m (whole a) (whole b)) → ¬ (IsAt m b) → pos 0 <ℤ h.of_p
weight_first m a b h n = elim (either h.of_p (pos 0)) [
  | inr j ↦ j
  | inl j ↦ absurd (n (record { x_is = at_second m.x m.k h.of_p h.of_q a.x b.x h.mean_x (none j) (rest j); y_is = at_second m.y m.k h.of_p h.of_q a.y b.y h.mean_y (none j) (rest j) }))
]
  where
    none : h.of_p ≤ℤ pos 0 → h.of_p ≡ pos 0
    none j = omega (arith, ints, h.p_weight)

    rest : h.of_p ≤ℤ pos 0 → pos 0 <ℤ h.of_q
    rest j = omega (arith, ints, h.weighted)

weight_second : (m : RatPoint) (a b : Point) (h : IsOnSegment m (whole a) (whole b)) → ¬ (IsAt m a) → pos 0 <ℤ h.of_q
weight_second m a b h n = elim (either h.of_q (pos 0)) [
  | inr j ↦ j
  | inl j ↦ absurd (n (record { x_is = at_second m.x m.k h.of_q h.of_p b.x a.x (exchanged m.x m.k h.of_p h.of_q a.x b.x h.mean_x) (none j) (rest j); y_is = at_second m.y m.k h.of_q h.of_p b.y a.y (exchanged m.y m.k h.of_p h.of_q a.y b.y h.mean_y) (none j) (rest j) }))
]
  where
    none : h.of_q ≤ℤ pos 0 → h.of_q ≡ pos 0
    none j = omega (arith, ints, h.q_weight)

    rest : h.of_q ≤ℤ pos 0 → pos 0 <ℤ h.of_p
    rest j = omega (arith, ints, h.weighted)

-- ---- the line p-q is 0 where they meet
span_ends : (p q : RatPoint) → (side (span p q) p ≡ pos 0) × (side (span p q) q ≡ pos 0)
span_ends p q = (span_is p q p ∙ ring (six p q) (detE P Q P) (num (pos 0)) refl, span_is p q q ∙ ring (six p q) (detE P Q Q) (num (pos 0)) refl)
  where
    six : RatPoint → RatPoint → List ℤ
    six p q = p.x ∷ p.y ∷ p.k ∷ q.x ∷ q.y ∷ q.k ∷ []

    P : PointE
    P = record { x = var 0; y = var 1; k = var 2 }

    Q : PointE
    Q = record { x = var 3; y = var 4; k = var 5 }

mean_zero : (m w k s t y z : ℤ) → m *ℤ w ≡ k *ℤ (s *ℤ y +ℤ t *ℤ z) → y ≡ pos 0 → z ≡ pos 0 → pos 0 <ℤ w → m ≡ pos 0
mean_zero m w k s t y z e f g h = no_factor m w (e ∙ ap (λ (y : ℤ). k *ℤ (s *ℤ y +ℤ t *ℤ z)) f ∙ ap (λ (z : ℤ). k *ℤ (s *ℤ pos 0 +ℤ t *ℤ z)) g ∙ ring (k ∷ s ∷ t ∷ []) (var 0 ⊗ (var 1 ⊗ num (pos 0) ⊕ var 2 ⊗ num (pos 0))) (num (pos 0)) refl) h

on_span : (p q m : RatPoint) → IsRational p → IsRational q → IsOnSegment m p q → side (span p q) m ≡ pos 0
on_span p q m kp kq h = mean_zero (side (span p q) m) (h.of_p *ℤ p.k +ℤ h.of_q *ℤ q.k) m.k h.of_p h.of_q (side (span p q) p) (side (span p q) q) (side_mean (span p q) m p q h) (span_ends p q).0 (span_ends p q).1
    (some_weight h.of_p h.of_q p.k q.k h.p_weight h.q_weight h.weighted kp.positive kq.positive)

-- so by positive weights its values at a and b cancel, and b's is the greater
opposite : (m w k s t y z : ℤ) → m *ℤ w ≡ k *ℤ (s *ℤ y +ℤ t *ℤ z) → m ≡ pos 0 → pos 0 <ℤ k → pos 0 <ℤ s → pos 0 <ℤ t → pos 0 <ℤ (z -ℤ y) → (y <ℤ pos 0) × (pos 0 <ℤ z)
opposite m w k s t y z e f hk hs ht h = (
  elim (either (pos 0) y) [ inr j ↦ j | inl j ↦ absurd (omega (arith, ints, level, nn_mul s y (omega (arith, ints)) j, pos_mul t z ht (omega (arith, ints)))) ],
  elim (either z (pos 0)) [ inr j ↦ j | inl j ↦ absurd (omega (arith, ints, level, nn_np_mul t z (omega (arith, ints)) j, pos_mul_neg s y hs (omega (arith, ints)))) ],
)
  where
    level : s *ℤ y +ℤ t *ℤ z ≡ pos 0
    level = no_factor (s *ℤ y +ℤ t *ℤ z) k (ring (k ∷ s ∷ y ∷ t ∷ z ∷ []) ((var 1 ⊗ var 2 ⊕ var 3 ⊗ var 4) ⊗ var 0) (var 0 ⊗ (var 1 ⊗ var 2 ⊕ var 3 ⊗ var 4)) refl ∙ sym e ∙ ap (λ (m : ℤ). m *ℤ w) f ∙ ring (w ∷ []) (num (pos 0) ⊗ var 0) (num (pos 0)) refl) hk

crossed : (p q : RatPoint) (a b : Point) → IsRational p → IsRational q → DoesPass p q a b → IsCrossed p q a b
crossed p q a b kp kq h = record { p_left = h.p_left; q_right = h.q_right; a_right = subst (λ (z : ℤ). z <ℤ pos 0) (span_is p q (whole a)) signs.0; b_left = subst (λ (z : ℤ). pos 0 <ℤ z) (span_is p q (whole b)) signs.1 }
  where
    on : IsOnSegment h.at (whole a) (whole b)
    on = on_segment a b h.at (two_ends p a b h.p_left) h.rational.positive h.on_edge

    weak : {z : ℤ} → pos 0 <ℤ z → pos 0 ≤ℤ z
    weak {z} h = omega (arith, ints)

    below : {z : ℤ} → z <ℤ pos 0 → z ≤ℤ pos 0
    below {z} h = omega (arith, ints)

    rises : pos 0 <ℤ (det p q (whole b) -ℤ det p q (whole a))
    rises = subst (λ (z : ℤ). pos 0 <ℤ z) (crossing_k p q a b) (mixed_pos (orient_rat a b p) (orient_rat a b q) p.k q.k (weak h.p_left) (below h.q_right) (omega (arith, ints, h.p_left, h.q_right)) kp.positive kq.positive)

    signs : (side (span p q) (whole a) <ℤ pos 0) × (pos 0 <ℤ side (span p q) (whole b))
    signs = opposite (side (span p q) h.at) (on.of_p *ℤ pos 1 +ℤ on.of_q *ℤ pos 1) h.at.k on.of_p on.of_q (side (span p q) (whole a)) (side (span p q) (whole b)) (side_mean (span p q) h.at (whole a) (whole b) on)
        (on_span p q h.at kp kq h.on_way) h.rational.positive (weight_first h.at a b on h.not_b) (weight_second h.at a b on h.not_a)
        (subst (λ (z : ℤ). pos 0 <ℤ (z -ℤ side (span p q) (whole a))) (sym (span_is p q (whole b))) (subst (λ (z : ℤ). pos 0 <ℤ (det p q (whole b) -ℤ z)) (sym (span_is p q (whole a))) rises))

-- ---- the other edges
pub differs : (e f : Edge) → same_edge e f ≡ false → ¬ (e ≡ f)
differs e f i j = absurd (subst (λ (b : Bool). T b) (sym (edge_test.reflexive f) ∙ ap (λ (g : Edge). same_edge g f) (sym j) ∙ i) tt)

elsewhere : (p q : RatPoint) (a b : Point) (es : List Edge) → IsRational p → IsRational q → AllByRecursion IsEdge es → AllByRecursion (IsMissed p q a b) es → AllByRecursion (IsElsewhere p q a b) es
elsewhere p q a b [] kp kq n m = tt
elsewhere p q a b (e ∷ es) kp kq n m = (record { apart = λ i j. by_line (separate_or_meet p q e.a e.b n.0 kp.positive kq.positive) (m.0 (differs e (edge a b) i) (differs e (edge b a) j)) }, elsewhere p q a b es kp kq n.1 m.1)
  where
    by_line : IsSeparated p q (whole e.a) (whole e.b) ⊎ DoMeet p q (whole e.a) (whole e.b) → ((m : RatPoint) → IsRational m → IsOnSegment m p q → ¬ (IsOnClosed m e.a e.b)) → IsPartedByLine p q e
    by_line (inl s) x = record { line = s.line; start_right = s.c_right; end_right = s.d_right; p_left = s.p_left; q_left = s.q_left }
    by_line (inr d) x = absurd (x d.at (record { positive = d.rational }) d.on_first (on_closed e.a e.b d.at d.rational d.on_second))

pub jump_by_points : (p q : RatPoint) (a b : Point) (es : List Edge) → IsRational p → IsRational q → AllByRecursion IsEdge es → IsClosed es → DoesPass p q a b → AllByRecursion (IsMissed p q a b) es
    → wind p es -ℤ wind q es ≡ pos (times (edge a b) es) -ℤ pos (times (edge b a) es)
jump_by_points p q a b es kp kq n cl h m = jump p q a b es cl kp kq (two_ends p a b h.p_left) (crossed p q a b kp kq h) (elsewhere p q a b es kp kq n m)
