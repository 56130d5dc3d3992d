-- Law Near point: near each point v of a closed polygon there is a point of the open one, off all edges of a list, from which the way to v meets each edge at most in v.
-- By grid_geom's Near there is a point of the polygon from which the way to v meets the lines of the edges at most in v. Stands on EdgeLines and Inside.
use lib.IntN.{ℤ, pos, ◌+ℤ◌, ◌-ℤ◌, ◌*ℤ◌}
use lib.Signed.{◌<ℤ◌, ◌≤ℤ◌}
use mathlib.Core.Path.{◌≡◌, refl, sym, ap, ◌∙◌, subst}
use mathlib.Core.List.{List, [], ◌∷◌}
use mathlib.Core.Logic.{inl, inr}
use native.Mathlib.Omega.{arith}
use Rattle.std.proofs.lemmas.Int.{ints}
use Rattle.std.specs.List.{AllByRecursion}
use Rattle.grid_geom.specs.declared.Point.{Point}
use Rattle.grid_geom.specs.declared.RatPoint.{RatPoint}
use Rattle.grid_geom.specs.declared.Edge.{Edge}
use Rattle.grid_geom.specs.Plane.{orient_rat, IsRational}
use Rattle.grid_geom.specs.Line.{Line, side, through, IsClear, clear_left, clear_right}
use Rattle.grid_geom.specs.Segment.{IsOnSegment}
use Rattle.grid_geom.specs.Polygon.{sides, IsStrictlyConvex}
use Rattle.grid_geom.specs.Closed.{IsEdge, IsOff}
use Rattle.grid_geom.proofs.Ring.{var, num, ◌⊕◌, ◌⊖◌, ◌⊗◌, ring}
use Rattle.grid_geom.proofs.Signs.{either, ordered, nn_mul, pos_mul, pos_mul_neg, nn_np_mul}
use Rattle.grid_geom.proofs.Lines.{through_is}
use Rattle.grid_geom.proofs.Means.{side_mean}
use Rattle.grid_geom.proofs.Near.{IsWedge, IsNear, near}
use Rattle.wind_law.specs.Centre.{centre}
use Rattle.wind_law.specs.Near.{IsSamePlace, IsInClosure, MeetsAtMostIn, HasPointNear}
use Rattle.grid_geom.proofs.Polygon.{lines}
use Rattle.grid_geom.proofs.Convex.{lines_inside}
use Rattle.wind_law.proofs.EdgeLines.{lines_directed, on_line}
use Rattle.wind_law.proofs.Inside.{centre_in_polygon, centre_rational}

-- ---- a mean of two values that are on one side of 0, the second strictly
no_mean : (s t a b k : ℤ) → pos 0 ≡ k *ℤ (s *ℤ a +ℤ t *ℤ b) → pos 0 <ℤ k → pos 0 ≤ℤ s → pos 0 <ℤ t → pos 0 ≤ℤ a → pos 0 <ℤ b → ⊥
no_mean s t a b k e hk hs ht ha hb = omega (arith, ints, e, pos_mul k (s *ℤ a +ℤ t *ℤ b) hk (omega (arith, ints, nn_mul s a hs ha, pos_mul t b ht hb)))

no_mean_right : (s t a b k : ℤ) → pos 0 ≡ k *ℤ (s *ℤ a +ℤ t *ℤ b) → pos 0 <ℤ k → pos 0 ≤ℤ s → pos 0 <ℤ t → a ≤ℤ pos 0 → b <ℤ pos 0 → ⊥
no_mean_right s t a b k e hk hs ht ha hb = omega (arith, ints, e, pos_mul_neg k (s *ℤ a +ℤ t *ℤ b) hk (omega (arith, ints, nn_np_mul s a hs ha, pos_mul_neg t b ht hb)))

only_v : (l : Line) (m v w : RatPoint) (h : IsOnSegment m v w) → pos 0 <ℤ m.k → pos 0 <ℤ v.k → side l m ≡ pos 0 → IsClear v w l → IsSamePlace m v
only_v l m v w h km kv e c = elim (either h.of_q (pos 0)) [
  | inr t ↦ absurd (bad c t)
  | inl t ↦ record { same_x = place m.x v.x w.x (gone t) h.mean_x; same_y = place m.y v.y w.y (gone t) h.mean_y }
]
  where
    gone : h.of_q ≤ℤ pos 0 → h.of_q ≡ pos 0
    gone t = omega (arith, ints, h.q_weight)

    level : pos 0 ≡ m.k *ℤ (h.of_p *ℤ side l v +ℤ h.of_q *ℤ side l w)
    level = zero ((h.of_p *ℤ v.k +ℤ h.of_q *ℤ w.k)) e ∙ side_mean l m v w h
      where
        zero : {s : ℤ} (w : ℤ) → s ≡ pos 0 → pos 0 ≡ s *ℤ w
        zero {s} w e = ring (w ∷ []) (num (pos 0)) (num (pos 0) ⊗ var 0) refl ∙ ap (λ (z : ℤ). z *ℤ w) (sym e)

    bad : IsClear v w l → pos 0 <ℤ h.of_q → ⊥
    bad (clear_left f g) t = no_mean h.of_p h.of_q (side l v) (side l w) m.k level km h.p_weight t f g
    bad (clear_right f g) t = no_mean_right h.of_p h.of_q (side l v) (side l w) m.k level km h.p_weight t f g

    positive : h.of_q ≡ pos 0 → pos 0 <ℤ h.of_p
    positive t = omega (arith, ints, h.weighted)

    cancel : (x y s : ℤ) → pos 0 <ℤ s → (x -ℤ y) *ℤ s ≡ pos 0 → x ≡ y
    cancel x y s hs e = elim (ordered (x -ℤ y) (pos 0)) [
      | inl j ↦ absurd (omega (arith, ints, e, pos_mul_neg s (x -ℤ y) hs j))
      | inr r ↦ elim r [ inl j ↦ omega (arith, ints) | inr j ↦ absurd (omega (arith, ints, e, pos_mul (x -ℤ y) s j hs)) ]
    ]

    place : (x y z : ℤ) → h.of_q ≡ pos 0 → x *ℤ (h.of_p *ℤ v.k +ℤ h.of_q *ℤ w.k) ≡ m.k *ℤ (h.of_p *ℤ y +ℤ h.of_q *ℤ z) → x *ℤ v.k ≡ y *ℤ m.k
    place x y z t j = cancel (x *ℤ v.k) (y *ℤ m.k) h.of_p (positive t) (ring (x ∷ v.k ∷ y ∷ m.k ∷ h.of_p ∷ w.k ∷ z ∷ []) ((var 0 ⊗ var 1 ⊖ var 2 ⊗ var 3) ⊗ var 4) (var 0 ⊗ (var 4 ⊗ var 1 ⊕ num (pos 0) ⊗ var 5) ⊖ var 3 ⊗ (var 4 ⊗ var 2 ⊕ num (pos 0) ⊗ var 6)) refl
        ∙ zero_diff (subst (λ (t : ℤ). x *ℤ (h.of_p *ℤ v.k +ℤ t *ℤ w.k) ≡ m.k *ℤ (h.of_p *ℤ y +ℤ t *ℤ z)) t j))
      where
        zero_diff : {a b : ℤ} → a ≡ b → a -ℤ b ≡ pos 0
        zero_diff {a} {b} e = omega (arith, ints)

pub end_clear : (l : Line) (v w : RatPoint) → side l w ≡ pos 0 → IsClear v w l → ⊥
end_clear l v w e (clear_left f g) = omega (arith, ints, e, g)
end_clear l v w e (clear_right f g) = omega (arith, ints, e, g)

pub off_edges : (v w : RatPoint) (es : List Edge) → AllByRecursion (IsClear v w) (lines es) → IsOff w es
off_edges v w [] c = tt
off_edges v w (e ∷ es) c = ((λ j. end_clear (through e.a e.b) v w (on_line w e.a e.b j) c.0), off_edges v w es c.1)

pub free_edges : (v w : RatPoint) (es : List Edge) → IsRational v → AllByRecursion (IsClear v w) (lines es) → AllByRecursion (MeetsAtMostIn v w) es
free_edges v w [] kv c = tt
free_edges v w (e ∷ es) kv c = ((λ m km h j. only_v (through e.a e.b) m v w h km.positive kv.positive (on_line m e.a e.b j) c.0), free_edges v w es kv c.1)

wedges : (v w : RatPoint) (es : List Edge) → AllByRecursion (λ e. pos 0 ≤ℤ orient_rat e.a e.b v) es → AllByRecursion (λ e. pos 0 <ℤ orient_rat e.a e.b w) es → AllByRecursion (IsWedge v w) (lines es)
wedges v w [] h j = tt
wedges v w (e ∷ es) h j = (
  record {
    v_left = subst (λ (z : ℤ). pos 0 ≤ℤ z) (sym (through_is e.a e.b v)) h.0;
    w_left = subst (λ (z : ℤ). pos 0 <ℤ z) (sym (through_is e.a e.b w)) j.0;
  },
  wedges v w es h.1 j.1,
)

pub near_point : (v : RatPoint) (corners : List Point) (es : List Edge) → IsRational v → IsStrictlyConvex corners → IsInClosure v corners → AllByRecursion IsEdge es → HasPointNear v corners es
near_point v corners es kv c h n = result (near v (centre corners) (lines (sides corners)) (lines es) kv.positive (centre_rational corners c).positive (wedges v (centre corners) (sides corners) h.left (centre_in_polygon corners c).left) (lines_directed es n))
  where
    result : IsNear v (lines (sides corners)) (lines es) → HasPointNear v corners es
    result r = record {
      at = r.at;
      rational = record { positive = r.rational };
      inside = record { left = lines_inside r.at (sides corners) r.inside };
      off = off_edges v r.at es r.clear;
      free = free_edges v r.at es kv r.clear;
    }
