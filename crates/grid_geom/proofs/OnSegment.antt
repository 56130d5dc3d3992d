-- A rational point is on a closed segment by its box (`IsOnClosed`) exactly where it is a mean of the ends (`IsOnSegment`).
-- Stands on Meeting and Means.
use lib.IntN.{ℤ, pos, ◌+ℤ◌, ◌-ℤ◌, ◌*ℤ◌}
use lib.Signed.{◌<ℤ◌, ◌≤ℤ◌}
use mathlib.Core.Path.{◌≡◌, refl, sym, ◌∙◌, subst}
use mathlib.Core.List.{[], ◌∷◌}
use mathlib.Core.Logic.{inl, inr}
use native.Mathlib.Omega.{arith}
use Rattle.std.proofs.lemmas.Int.{ints, clamps}
use Rattle.std.specs.Int.{int_max, int_min}
use Rattle.grid_geom.specs.declared.Point.{Point}
use Rattle.grid_geom.specs.declared.RatPoint.{RatPoint}
use Rattle.grid_geom.specs.Line.{side, whole}
use Rattle.grid_geom.specs.Segment.{IsOnSegment}
use Rattle.grid_geom.specs.Sides.{IsOnClosed}
use Rattle.grid_geom.proofs.Ring.{var, num, ◌⊕◌, ◌⊖◌, ◌⊗◌, ring}
use Rattle.grid_geom.proofs.Signs.{nn_mul, nn_np_mul, np_nn_mul, either, le_cancel}
use Rattle.grid_geom.proofs.Means.{on_line}
use Rattle.grid_geom.proofs.Lines.{through_is, orient_back}
use Rattle.grid_geom.proofs.Meeting.{within, beyond}

-- ---- by box, then by weights
beyond_is : (c d : Point) (p : RatPoint) → side (beyond c d) p ≡ (d.x -ℤ c.x) *ℤ (p.x -ℤ d.x *ℤ p.k) +ℤ (d.y -ℤ c.y) *ℤ (p.y -ℤ d.y *ℤ p.k)
beyond_is c d p = ring (c.x ∷ c.y ∷ d.x ∷ d.y ∷ p.x ∷ p.y ∷ p.k ∷ []) ((var 2 ⊖ var 0) ⊗ var 4 ⊕ (var 3 ⊖ var 1) ⊗ var 5 ⊕ (num (pos 0) ⊖ (var 2 ⊖ var 0) ⊗ var 2 ⊖ (var 3 ⊖ var 1) ⊗ var 3) ⊗ var 6)
    ((var 2 ⊖ var 0) ⊗ (var 4 ⊖ var 2 ⊗ var 6) ⊕ (var 3 ⊖ var 1) ⊗ (var 5 ⊖ var 3 ⊗ var 6)) refl

-- towards w from u, a number within is not past w
not_past : (u w z k : ℤ) → (int_min u w *ℤ k) ≤ℤ z → z ≤ℤ (int_max u w *ℤ k) → ((w -ℤ u) *ℤ (z -ℤ w *ℤ k)) ≤ℤ pos 0
not_past u w z k h j = elim (either u w) [
  | inl l ↦ nn_np_mul (w -ℤ u) (z -ℤ w *ℤ k) (omega (arith, ints)) (high (most l) j)
  | inr l ↦ np_nn_mul (w -ℤ u) (z -ℤ w *ℤ k) (omega (arith, ints)) (low (least l) h)
]
  where
    most : u ≤ℤ w → int_max u w ≡ w
    most l = omega (arith, ints, clamps)

    least : w <ℤ u → int_min u w ≡ w
    least l = omega (arith, ints, clamps)

    high : int_max u w ≡ w → z ≤ℤ (int_max u w *ℤ k) → (z -ℤ w *ℤ k) ≤ℤ pos 0
    high e j = omega (arith, ints, subst (λ (m : ℤ). z ≤ℤ (m *ℤ k)) e j)

    low : int_min u w ≡ w → (int_min u w *ℤ k) ≤ℤ z → pos 0 ≤ℤ (z -ℤ w *ℤ k)
    low e j = omega (arith, ints, subst (λ (m : ℤ). (m *ℤ k) ≤ℤ z) e j)

turn_min : (u w : ℤ) → int_min u w ≡ int_min w u
turn_min u w = omega (arith, ints, clamps)

turn_max : (u w : ℤ) → int_max u w ≡ int_max w u
turn_max u w = omega (arith, ints, clamps)

pub on_segment : (a b : Point) (q : RatPoint) → ¬ (a ≡ b) → pos 0 <ℤ q.k → IsOnClosed q a b → IsOnSegment q (whole a) (whole b)
on_segment a b q n kq h = within a b q n kq h.straight
    (summed (beyond_is a b q) (not_past a.x b.x q.x q.k h.right_of_least h.left_of_greatest) (not_past a.y b.y q.y q.k h.above_least h.below_greatest))
    (summed (beyond_is b a q) (not_past b.x a.x q.x q.k (subst (λ (m : ℤ). (m *ℤ q.k) ≤ℤ q.x) (turn_min a.x b.x) h.right_of_least) (subst (λ (m : ℤ). q.x ≤ℤ (m *ℤ q.k)) (turn_max a.x b.x) h.left_of_greatest))
    (not_past b.y a.y q.y q.k (subst (λ (m : ℤ). (m *ℤ q.k) ≤ℤ q.y) (turn_min a.y b.y) h.above_least) (subst (λ (m : ℤ). q.y ≤ℤ (m *ℤ q.k)) (turn_max a.y b.y) h.below_greatest)))
  where
    summed : {s x y : ℤ} → s ≡ x +ℤ y → x ≤ℤ pos 0 → y ≤ℤ pos 0 → s ≤ℤ pos 0
    summed {s} {x} {y} e h j = omega (arith, ints)

-- ---- by weights, then by box
weigh : (z s t u w k : ℤ) → (z *ℤ k) *ℤ (s *ℤ pos 1 +ℤ t *ℤ pos 1) ≡ k *ℤ (s *ℤ z +ℤ t *ℤ z)
weigh z s t u w k = ring (z ∷ s ∷ t ∷ k ∷ []) ((var 0 ⊗ var 3) ⊗ (var 1 ⊗ num (pos 1) ⊕ var 2 ⊗ num (pos 1))) (var 3 ⊗ (var 1 ⊗ var 0 ⊕ var 2 ⊗ var 0)) refl

spread : (k s t u w z : ℤ) → k *ℤ (s *ℤ u +ℤ t *ℤ w) ≡ k *ℤ (s *ℤ z +ℤ t *ℤ z) +ℤ k *ℤ (s *ℤ (u -ℤ z) +ℤ t *ℤ (w -ℤ z))
spread k s t u w z = ring (k ∷ s ∷ t ∷ u ∷ w ∷ z ∷ []) (var 0 ⊗ (var 1 ⊗ var 3 ⊕ var 2 ⊗ var 4)) (var 0 ⊗ (var 1 ⊗ var 5 ⊕ var 2 ⊗ var 5) ⊕ var 0 ⊗ (var 1 ⊗ (var 3 ⊖ var 5) ⊕ var 2 ⊗ (var 4 ⊖ var 5))) refl

least : (x k s t u w z : ℤ) → x *ℤ (s *ℤ pos 1 +ℤ t *ℤ pos 1) ≡ k *ℤ (s *ℤ u +ℤ t *ℤ w) → pos 0 <ℤ k → pos 0 ≤ℤ s → pos 0 ≤ℤ t → pos 0 <ℤ (s +ℤ t) → z ≤ℤ u → z ≤ℤ w → (z *ℤ k) ≤ℤ x
least x k s t u w z e hk hs ht h hu hw = le_cancel (z *ℤ k) x (s *ℤ pos 1 +ℤ t *ℤ pos 1) (omega (arith, ints))
    (below (weigh z s t u w k) e (spread k s t u w z) (nn_mul k (s *ℤ (u -ℤ z) +ℤ t *ℤ (w -ℤ z)) (omega (arith, ints)) (omega (arith, ints, nn_mul s (u -ℤ z) hs (omega (arith, ints)), nn_mul t (w -ℤ z) ht (omega (arith, ints))))))
  where
    below : {f g m n r : ℤ} → f ≡ m → g ≡ n → n ≡ m +ℤ r → pos 0 ≤ℤ r → f ≤ℤ g
    below {f} {g} {m} {n} {r} i j l h = omega (arith, ints)

greatest : (x k s t u w z : ℤ) → x *ℤ (s *ℤ pos 1 +ℤ t *ℤ pos 1) ≡ k *ℤ (s *ℤ u +ℤ t *ℤ w) → pos 0 <ℤ k → pos 0 ≤ℤ s → pos 0 ≤ℤ t → pos 0 <ℤ (s +ℤ t) → u ≤ℤ z → w ≤ℤ z → x ≤ℤ (z *ℤ k)
greatest x k s t u w z e hk hs ht h hu hw = le_cancel x (z *ℤ k) (s *ℤ pos 1 +ℤ t *ℤ pos 1) (omega (arith, ints))
    (above (weigh z s t u w k) e (spread k s t u w z) (nn_np_mul k (s *ℤ (u -ℤ z) +ℤ t *ℤ (w -ℤ z)) (omega (arith, ints)) (omega (arith, ints, nn_np_mul s (u -ℤ z) hs (omega (arith, ints)), nn_np_mul t (w -ℤ z) ht (omega (arith, ints))))))
  where
    above : {f g m n r : ℤ} → f ≡ m → g ≡ n → n ≡ m +ℤ r → r ≤ℤ pos 0 → g ≤ℤ f
    above {f} {g} {m} {n} {r} i j l h = omega (arith, ints)

pub on_closed : (a b : Point) (q : RatPoint) → pos 0 <ℤ q.k → IsOnSegment q (whole a) (whole b) → IsOnClosed q a b
on_closed a b q kq h = record {
  straight = sym (through_is a b q) ∙ exact (on_line a b q kq h).0 (on_line a b q kq h).1 (through_is a b q) (through_is b a q) (orient_back a b q);
  right_of_least = least q.x q.k h.of_p h.of_q a.x b.x (int_min a.x b.x) h.mean_x kq h.p_weight h.q_weight h.weighted (omega (arith, ints, clamps)) (omega (arith, ints, clamps));
  left_of_greatest = greatest q.x q.k h.of_p h.of_q a.x b.x (int_max a.x b.x) h.mean_x kq h.p_weight h.q_weight h.weighted (omega (arith, ints, clamps)) (omega (arith, ints, clamps));
  above_least = least q.y q.k h.of_p h.of_q a.y b.y (int_min a.y b.y) h.mean_y kq h.p_weight h.q_weight h.weighted (omega (arith, ints, clamps)) (omega (arith, ints, clamps));
  below_greatest = greatest q.y q.k h.of_p h.of_q a.y b.y (int_max a.y b.y) h.mean_y kq h.p_weight h.q_weight h.weighted (omega (arith, ints, clamps)) (omega (arith, ints, clamps));
}
  where
    exact : {x y m n : ℤ} → x ≤ℤ pos 0 → y ≤ℤ pos 0 → x ≡ m → y ≡ n → n ≡ pos 0 -ℤ m → x ≡ pos 0
    exact {x} {y} {m} {n} h j e f g = omega (arith, ints)
