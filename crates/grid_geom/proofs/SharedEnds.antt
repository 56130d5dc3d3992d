-- Two segments of positive length tangle exactly where they share more than one common end.
-- Stands on InnerTangle (a common inner point is a tangle), SharedPoint and OnSegment; serves `tangle`.
use lib.IntN.{ℤ, pos, ◌+ℤ◌, ◌-ℤ◌, ◌*ℤ◌}
use lib.Signed.{◌<ℤ◌, ◌≤ℤ◌}
use mathlib.Core.Path.{◌≡◌, refl, sym, ap, ◌∙◌, subst}
use mathlib.Core.List.{[], ◌∷◌}
use mathlib.Core.Logic.{◌⊎◌, inl, inr}
use mathlib.Core.Bool.{Bool, true, false}
use native.Mathlib.Omega.{arith}
use Rattle.std.proofs.lemmas.Int.{ints}
use Rattle.std.specs.Int.{int_max, int_min}
use Rattle.grid_geom.specs.declared.Point.{Point}
use Rattle.grid_geom.specs.declared.RatPoint.{RatPoint}
use Rattle.grid_geom.specs.Plane.{orient, orient_rat}
use Rattle.grid_geom.specs.Line.{whole}
use Rattle.grid_geom.specs.Segment.{IsOnSegment, DoMeet, IsInnerTo}
use Rattle.grid_geom.specs.Sides.{IsOnOpen, IsOnClosed, AreBeside, both_left, both_right, DoCross, DoTangle, same_ends, swapped_ends, first_start, first_end, second_start, second_end, crossing}
use Rattle.grid_geom.specs.Sharing.{IsShared, IsAt, IsEnd, ShareAtMostAnEnd, nothing, one_end}
use Rattle.grid_geom.proofs.Ring.{var, num, ◌⊕◌, ◌⊖◌, ◌⊗◌, ring}
use Rattle.grid_geom.proofs.Signs.{pos_mul, np_mul, either, le_cancel, nn_factor, neg_factor, zero_factor}
use Rattle.grid_geom.proofs.Lines.{orient_whole, same_place}
use Rattle.grid_geom.proofs.Meeting as meeting
use Rattle.grid_geom.proofs.Meeting.{separate_or_meet, on_back}
use Rattle.grid_geom.proofs.Means.{separated_apart}
use Rattle.grid_geom.proofs.Near.{mix}
use Rattle.grid_geom.proofs.OnSegment.{on_closed}
use Rattle.grid_geom.proofs.InnerTangle.{inner_back, inner_tangles}
use Rattle.grid_geom.proofs.SharedPoint.{closed_segment, leftward, rightward}

-- ---- a tangle: more than one common end is shared
-- a grid point as a rational point is where it is
is_same : (p e : Point) → IsAt (whole p) e → p ≡ e
is_same p e h = same_place p e (plain h.x_is) (plain h.y_is)
  where
    plain : {x y : ℤ} → x ≡ y *ℤ pos 1 → x ≡ y
    plain {x} {y} e = omega (arith, ints)

-- a point between the ends is on the closed segment
pub open_closed : (p a b : Point) → IsOnOpen p a b → IsOnClosed (whole p) a b
open_closed p a b h = record {
  straight = orient_whole a b p ∙ h.straight;
  right_of_least = omega (arith, ints, h.right_of_least);
  left_of_greatest = omega (arith, ints, h.left_of_greatest);
  above_least = omega (arith, ints, h.above_least);
  below_greatest = omega (arith, ints, h.below_greatest);
}

pub start_closed : (a b : Point) → IsOnClosed (whole a) a b
start_closed a b = on_closed a b (whole a) (omega (arith, ints)) (meeting.first_end (whole a) (whole b))

pub finish_closed : (a b : Point) → IsOnClosed (whole b) a b
finish_closed a b = on_closed a b (whole b) (omega (arith, ints)) (on_back (whole b) (whole b) (whole a) (meeting.first_end (whole b) (whole a)))

shared_at : (p a b c d : Point) → IsOnClosed (whole p) a b → IsOnClosed (whole p) c d → IsShared (whole p) a b c d
shared_at p a b c d h j = record { rational = record { positive = omega (arith, ints) }; on_first = h; on_second = j }

-- a shared grid point is an end of both
shared_end : (p a b c d : Point) → ShareAtMostAnEnd a b c d → IsShared (whole p) a b c d → IsEnd p a b × IsEnd p c d
shared_end p a b c d (nothing h) s = absurd (h (whole p) s)
shared_end p a b c d (one_end e i j h) s = let P : Point → Type 0 = λ z. IsEnd z a b × IsEnd z c d in subst P (sym (is_same p e (h (whole p) s))) (i, j)

-- two shared grid points are one
shared_same : (p r a b c d : Point) → ShareAtMostAnEnd a b c d → IsShared (whole p) a b c d → IsShared (whole r) a b c d → p ≡ r
shared_same p r a b c d (nothing h) s t = absurd (h (whole p) s)
shared_same p r a b c d (one_end e i j h) s t = is_same p e (h (whole p) s) ∙ sym (is_same r e (h (whole r) t))

no_open_end : (p a b : Point) → IsOnOpen p a b → IsEnd p a b → ⊥
no_open_end p a b h (inl e) = h.not_a e
no_open_end p a b h (inr e) = h.not_b e

at_least_one : {z : ℤ} → pos 0 <ℤ z → pos 0 ≤ℤ z
at_least_one {z} h = omega (arith, ints)

-- segments that cross are not beside each other, and meet
cross_meet : (a b c d : Point) → DoCross a b c d → DoMeet (whole a) (whole b) (whole c) (whole d)
cross_meet a b c d h = elim (either (orient c d a) (pos 0)) [
  | inr i ↦ leftward a b c d apart (at_least_one i) (at_most (nn_factor (orient c d a) (orient c d b) h.ends_second (at_least_one i))) (more i (nn_factor (orient c d a) (orient c d b) h.ends_second (at_least_one i)))
  | inl i ↦ elim (either (pos 0) (orient c d a)) [
    | inr j ↦ rightward a b c d apart i (at_least_one (neg_factor (orient c d a) (orient c d b) h.ends_second j)) (less j (neg_factor (orient c d a) (orient c d b) h.ends_second j))
    | inl j ↦ absurd (none (orient c d a) (orient c d b) h.ends_second i j)
  ]
]
  where
    at_most : {z : ℤ} → z <ℤ pos 0 → z ≤ℤ pos 0
    at_most {z} h = omega (arith, ints)

    more : {y z : ℤ} → pos 0 <ℤ y → z <ℤ pos 0 → pos 0 <ℤ (y -ℤ z)
    more {y} {z} h j = omega (arith, ints)

    less : {y z : ℤ} → y <ℤ pos 0 → pos 0 <ℤ z → pos 0 <ℤ (z -ℤ y)
    less {y} {z} h j = omega (arith, ints)

    none : (y z : ℤ) → (y *ℤ z) <ℤ pos 0 → y ≤ℤ pos 0 → pos 0 ≤ℤ y → ⊥
    none y z h i j = omega (arith, ints, subst (λ (m : ℤ). (m *ℤ z) <ℤ pos 0) (zero i j) h)
      where
        zero : {y : ℤ} → y ≤ℤ pos 0 → pos 0 ≤ℤ y → y ≡ pos 0
        zero {y} i j = omega (arith, ints)

    apart : AreBeside a b c d → ⊥
    apart (both_left i j) = clash (pos_mul (orient a b c) (orient a b d) i j) h.ends_first
      where
        clash : {z : ℤ} → pos 0 <ℤ z → z <ℤ pos 0 → ⊥
        clash {z} f g = omega (arith, ints)
    apart (both_right i j) = clash (np_mul (orient a b c) (orient a b d) (at_most i) (at_most j)) h.ends_first
      where
        clash : {z : ℤ} → pos 0 ≤ℤ z → z <ℤ pos 0 → ⊥
        clash {z} f g = omega (arith, ints)

-- a rational point of the line c-d that stands at a grid point
at_straight : (m : RatPoint) (e c d : Point) → pos 0 <ℤ m.k → IsAt m e → orient_rat c d m ≡ pos 0 → orient c d e ≡ pos 0
at_straight m e c d km h s = zero_factor m.k (orient c d e) (turned ∙ s) km
  where
    turned : m.k *ℤ orient c d e ≡ orient_rat c d m
    turned = ring (c.x ∷ c.y ∷ d.x ∷ d.y ∷ e.x ∷ e.y ∷ m.k ∷ []) (var 6 ⊗ ((var 2 ⊖ var 0) ⊗ (var 5 ⊖ var 1) ⊖ (var 3 ⊖ var 1) ⊗ (var 4 ⊖ var 0))) ((var 2 ⊖ var 0) ⊗ (var 5 ⊗ var 6 ⊖ var 1 ⊗ var 6) ⊖ (var 3 ⊖ var 1) ⊗ (var 4 ⊗ var 6 ⊖ var 0 ⊗ var 6)) refl
        ∙ ap (λ (z : ℤ). (d.x -ℤ c.x) *ℤ (z -ℤ c.y *ℤ m.k) -ℤ (d.y -ℤ c.y) *ℤ (e.x *ℤ m.k -ℤ c.x *ℤ m.k)) (sym h.y_is)
        ∙ ap (λ (z : ℤ). (d.x -ℤ c.x) *ℤ (m.y -ℤ c.y *ℤ m.k) -ℤ (d.y -ℤ c.y) *ℤ (z -ℤ c.x *ℤ m.k)) (sym h.x_is)

no_cross : (a b c d : Point) → DoCross a b c d → ShareAtMostAnEnd a b c d → ⊥
no_cross a b c d h s = found (cross_meet a b c d h) s
  where
    zero_product : (y z : ℤ) → (y *ℤ z) <ℤ pos 0 → (y ≡ pos 0) ⊎ (z ≡ pos 0) → ⊥
    zero_product y z f (inl e) = omega (arith, ints, subst (λ (m : ℤ). (m *ℤ z) <ℤ pos 0) e f)
    zero_product y z f (inr e) = omega (arith, ints, subst (λ (m : ℤ). (y *ℤ m) <ℤ pos 0) e f)

    ends : (e : Point) → IsEnd e a b → orient c d e ≡ pos 0 → (orient c d a ≡ pos 0) ⊎ (orient c d b ≡ pos 0)
    ends e (inl f) g = inl (subst (λ (z : Point). orient c d z ≡ pos 0) f g)
    ends e (inr f) g = inr (subst (λ (z : Point). orient c d z ≡ pos 0) f g)

    found : DoMeet (whole a) (whole b) (whole c) (whole d) → ShareAtMostAnEnd a b c d → ⊥
    found m (nothing n) = n m.at (record { rational = record { positive = m.rational }; on_first = on_closed a b m.at m.rational m.on_first; on_second = on_closed c d m.at m.rational m.on_second })
    found m (one_end e i j n) = zero_product (orient c d a) (orient c d b) h.ends_second (ends e i (at_straight m.at e c d m.rational
        (n m.at (record { rational = record { positive = m.rational }; on_first = on_closed a b m.at m.rational m.on_first; on_second = on_closed c d m.at m.rational m.on_second }))
        (on_closed c d m.at m.rational m.on_second).straight))

pub tangle_shares : (a b c d : Point) → ¬ (a ≡ b) → ¬ (c ≡ d) → DoTangle a b c d → ShareAtMostAnEnd a b c d → ⊥
tangle_shares a b c d n n' (same_ends e f) s = n (shared_same a b a b c d s
    (shared_at a a b c d (start_closed a b) (subst (λ (z : Point). IsOnClosed (whole z) c d) (sym e) (start_closed c d))) (shared_at b a b c d (finish_closed a b) (subst (λ (z : Point). IsOnClosed (whole z) c d) (sym f) (finish_closed c d))))
tangle_shares a b c d n n' (swapped_ends e f) s = n (shared_same a b a b c d s
    (shared_at a a b c d (start_closed a b) (subst (λ (z : Point). IsOnClosed (whole z) c d) (sym e) (finish_closed c d))) (shared_at b a b c d (finish_closed a b) (subst (λ (z : Point). IsOnClosed (whole z) c d) (sym f) (start_closed c d))))
tangle_shares a b c d n n' (first_start h) s = no_open_end a c d h (shared_end a a b c d s (shared_at a a b c d (start_closed a b) (open_closed a c d h))).1
tangle_shares a b c d n n' (first_end h) s = no_open_end b c d h (shared_end b a b c d s (shared_at b a b c d (finish_closed a b) (open_closed b c d h))).1
tangle_shares a b c d n n' (second_start h) s = no_open_end c a b h (shared_end c a b c d s (shared_at c a b c d (open_closed c a b h) (start_closed c d))).0
tangle_shares a b c d n n' (second_end h) s = no_open_end d a b h (shared_end d a b c d s (shared_at d a b c d (open_closed d a b h) (finish_closed c d))).0
tangle_shares a b c d n n' (crossing h) s = no_cross a b c d h s

-- ---- no tangle: at most one common end is shared
-- where a point of a segment is
data IsPlaced (m : RatPoint) (a b : Point) : Type 0 where
  inner : IsInnerTo m a b → IsPlaced m a b
  at_start : IsAt m a → IsPlaced m a b
  at_finish : IsAt m b → IsPlaced m a b

-- with no weight on b, a mean is at a
all_on_first : (x k s t u w : ℤ) → x *ℤ (s *ℤ pos 1 +ℤ t *ℤ pos 1) ≡ k *ℤ (s *ℤ u +ℤ t *ℤ w) → pos 0 <ℤ (s +ℤ t) → t ≡ pos 0 → x ≡ u *ℤ k
all_on_first x k s t u w e h f = equal (zero_factor s (x -ℤ u *ℤ k) (spread ∙ ap (λ (z : ℤ). z -ℤ k *ℤ (s *ℤ u +ℤ pos 0 *ℤ w)) (subst (λ (t : ℤ). x *ℤ (s *ℤ pos 1 +ℤ t *ℤ pos 1) ≡ k *ℤ (s *ℤ u +ℤ t *ℤ w)) f e) ∙ same (k *ℤ (s *ℤ u +ℤ pos 0 *ℤ w))) (omega (arith, ints)))
  where
    spread : s *ℤ (x -ℤ u *ℤ k) ≡ x *ℤ (s *ℤ pos 1 +ℤ pos 0 *ℤ pos 1) -ℤ k *ℤ (s *ℤ u +ℤ pos 0 *ℤ w)
    spread = ring (x ∷ k ∷ s ∷ u ∷ w ∷ []) (var 2 ⊗ (var 0 ⊖ var 3 ⊗ var 1)) (var 0 ⊗ (var 2 ⊗ num (pos 1) ⊕ num (pos 0) ⊗ num (pos 1)) ⊖ var 1 ⊗ (var 2 ⊗ var 3 ⊕ num (pos 0) ⊗ var 4)) refl

    same : (z : ℤ) → z -ℤ z ≡ pos 0
    same z = omega (arith, ints)

    equal : {y z : ℤ} → y -ℤ z ≡ pos 0 → y ≡ z
    equal {y} {z} e = omega (arith, ints)

at_first : (m : RatPoint) (a b : Point) (h : IsOnSegment m (whole a) (whole b)) → h.of_q ≡ pos 0 → IsAt m a
at_first m a b h f = record { x_is = all_on_first m.x m.k h.of_p h.of_q a.x b.x h.mean_x h.weighted f; y_is = all_on_first m.y m.k h.of_p h.of_q a.y b.y h.mean_y h.weighted f }

placed : (m : RatPoint) (a b : Point) → IsOnSegment m (whole a) (whole b) → IsPlaced m a b
placed m a b h = elim (either h.of_q (pos 0)) [
  | inl i ↦ at_start (at_first m a b h (zero h.q_weight i))
  | inr i ↦ elim (either h.of_p (pos 0)) [
    | inl j ↦ at_finish (at_first m b a (on_back m (whole a) (whole b) h) (zero h.p_weight j))
    | inr j ↦ inner (record { on = h; of_a = j; of_b = i })
  ]
]
  where
    zero : {z : ℤ} → pos 0 ≤ℤ z → z ≤ℤ pos 0 → z ≡ pos 0
    zero {z} f g = omega (arith, ints)

-- an inner point is at no end
pulled : (x k s t u w : ℤ) → x *ℤ (s *ℤ pos 1 +ℤ t *ℤ pos 1) ≡ k *ℤ (s *ℤ u +ℤ t *ℤ w) → x ≡ u *ℤ k → pos 0 <ℤ k → pos 0 <ℤ t → u ≡ w
pulled x k s t u w e f hk ht = equal (zero_factor t (w -ℤ u) (zero_factor k (t *ℤ (w -ℤ u)) (spread ∙ ap (λ (z : ℤ). z -ℤ (u *ℤ k) *ℤ (s *ℤ pos 1 +ℤ t *ℤ pos 1)) (sym (subst (λ (x : ℤ). x *ℤ (s *ℤ pos 1 +ℤ t *ℤ pos 1) ≡ k *ℤ (s *ℤ u +ℤ t *ℤ w)) f e)) ∙ same ((u *ℤ k) *ℤ (s *ℤ pos 1 +ℤ t *ℤ pos 1))) hk) ht)
  where
    spread : k *ℤ (t *ℤ (w -ℤ u)) ≡ k *ℤ (s *ℤ u +ℤ t *ℤ w) -ℤ (u *ℤ k) *ℤ (s *ℤ pos 1 +ℤ t *ℤ pos 1)
    spread = ring (k ∷ s ∷ t ∷ u ∷ w ∷ []) (var 0 ⊗ (var 2 ⊗ (var 4 ⊖ var 3))) (var 0 ⊗ (var 1 ⊗ var 3 ⊕ var 2 ⊗ var 4) ⊖ (var 3 ⊗ var 0) ⊗ (var 1 ⊗ num (pos 1) ⊕ var 2 ⊗ num (pos 1))) refl

    same : (z : ℤ) → z -ℤ z ≡ pos 0
    same z = omega (arith, ints)

    equal : {y z : ℤ} → z -ℤ y ≡ pos 0 → y ≡ z
    equal {y} {z} e = omega (arith, ints)

not_start : (m : RatPoint) (a b : Point) → ¬ (a ≡ b) → pos 0 <ℤ m.k → IsInnerTo m a b → IsAt m a → ⊥
not_start m a b n km h p = n (same_place a b (pulled m.x m.k h.on.of_p h.on.of_q a.x b.x h.on.mean_x p.x_is km h.of_b) (pulled m.y m.k h.on.of_p h.on.of_q a.y b.y h.on.mean_y p.y_is km h.of_b))

-- a grid point at an inner point of a segment is between its ends
inner_open : (m : RatPoint) (e a b : Point) → ¬ (a ≡ b) → pos 0 <ℤ m.k → IsAt m e → IsInnerTo m a b → IsOnOpen e a b
inner_open m e a b n km p h = record {
  straight = at_straight m e a b km p box.straight;
  right_of_least = le_cancel (int_min a.x b.x) e.x m.k km (subst (λ (z : ℤ). (int_min a.x b.x *ℤ m.k) ≤ℤ z) p.x_is box.right_of_least);
  left_of_greatest = le_cancel e.x (int_max a.x b.x) m.k km (subst (λ (z : ℤ). z ≤ℤ (int_max a.x b.x *ℤ m.k)) p.x_is box.left_of_greatest);
  above_least = le_cancel (int_min a.y b.y) e.y m.k km (subst (λ (z : ℤ). (int_min a.y b.y *ℤ m.k) ≤ℤ z) p.y_is box.above_least);
  below_greatest = le_cancel e.y (int_max a.y b.y) m.k km (subst (λ (z : ℤ). z ≤ℤ (int_max a.y b.y *ℤ m.k)) p.y_is box.below_greatest);
  not_a = λ f. not_start m a b n km h (subst (IsAt m) f p);
  not_b = λ f. not_start m b a (λ g. n (sym g)) km (inner_back m a b h) (subst (IsAt m) f p);
}
  where
    box : IsOnClosed m a b
    box = on_closed a b m km h.on

-- no rational point is inner to both segments
abbrev HaveNoInner : Point → Point → Point → Point → Type 0
HaveNoInner a b c d = (m : RatPoint) → pos 0 <ℤ m.k → IsInnerTo m a b → IsInnerTo m c d → ⊥

-- halfway from e to a point of e-g that has some of g is an inner point
middle_mean : (x k s t u w : ℤ) → x *ℤ (s *ℤ pos 1 +ℤ t *ℤ pos 1) ≡ k *ℤ (s *ℤ u +ℤ t *ℤ w) → (k *ℤ u +ℤ x) *ℤ ((s +ℤ t +ℤ s) *ℤ pos 1 +ℤ t *ℤ pos 1) ≡ (k *ℤ pos 1 +ℤ k) *ℤ ((s +ℤ t +ℤ s) *ℤ u +ℤ t *ℤ w)
middle_mean x k s t u w e =
    ring (x ∷ k ∷ s ∷ t ∷ u ∷ w ∷ []) ((var 1 ⊗ var 4 ⊕ var 0) ⊗ ((var 2 ⊕ var 3 ⊕ var 2) ⊗ num (pos 1) ⊕ var 3 ⊗ num (pos 1))) (num (pos 2) ⊗ (var 1 ⊗ var 4 ⊗ (var 2 ⊕ var 3)) ⊕ num (pos 2) ⊗ (var 0 ⊗ (var 2 ⊗ num (pos 1) ⊕ var 3 ⊗ num (pos 1)))) refl
    ∙ ap (λ (z : ℤ). pos 2 *ℤ (k *ℤ u *ℤ (s +ℤ t)) +ℤ pos 2 *ℤ z) e
    ∙ ring (k ∷ s ∷ t ∷ u ∷ w ∷ []) (num (pos 2) ⊗ (var 0 ⊗ var 3 ⊗ (var 1 ⊕ var 2)) ⊕ num (pos 2) ⊗ (var 0 ⊗ (var 1 ⊗ var 3 ⊕ var 2 ⊗ var 4))) ((var 0 ⊗ num (pos 1) ⊕ var 0) ⊗ ((var 1 ⊕ var 2 ⊕ var 1) ⊗ var 3 ⊕ var 2 ⊗ var 4)) refl

middle_inner : (q : RatPoint) (e g : Point) (h : IsOnSegment q (whole e) (whole g)) → pos 0 <ℤ h.of_q → IsInnerTo (mix q.k (whole e) q) e g
middle_inner q e g h t = record {
  on = record {
    of_p = h.of_p +ℤ h.of_q +ℤ h.of_p;
    of_q = h.of_q;
    p_weight = weak (more h.p_weight h.weighted);
    q_weight = h.q_weight;
    weighted = sum (more h.p_weight h.weighted) h.q_weight;
    mean_x = middle_mean q.x q.k h.of_p h.of_q e.x g.x h.mean_x;
    mean_y = middle_mean q.y q.k h.of_p h.of_q e.y g.y h.mean_y;
  };
  of_a = more h.p_weight h.weighted;
  of_b = t;
}
  where
    more : {y z : ℤ} → pos 0 ≤ℤ y → pos 0 <ℤ z → pos 0 <ℤ (z +ℤ y)
    more {y} {z} f g = omega (arith, ints)

    weak : {z : ℤ} → pos 0 <ℤ z → pos 0 ≤ℤ z
    weak {z} f = omega (arith, ints)

    sum : {y z : ℤ} → pos 0 <ℤ y → pos 0 ≤ℤ z → pos 0 <ℤ (y +ℤ z)
    sum {y} {z} f g = omega (arith, ints)

-- segments from one point with no common inner point share that point alone
only_end : (e g g' : Point) → HaveNoInner e g e g' → (q : RatPoint) → pos 0 <ℤ q.k → IsOnSegment q (whole e) (whole g) → IsOnSegment q (whole e) (whole g') → IsAt q e
only_end e g g' n q kq h j = elim (either h.of_q (pos 0)) [
  | inl i ↦ at_first q e g h (zero h.q_weight i)
  | inr i ↦ elim (either j.of_q (pos 0)) [
    | inl i' ↦ at_first q e g' j (zero j.q_weight i')
    | inr i' ↦ absurd (n (mix q.k (whole e) q) (doubled kq) (middle_inner q e g h i) (middle_inner q e g' j i'))
  ]
]
  where
    zero : {z : ℤ} → pos 0 ≤ℤ z → z ≤ℤ pos 0 → z ≡ pos 0
    zero {z} f g = omega (arith, ints)

    doubled : {z : ℤ} → pos 0 <ℤ z → pos 0 <ℤ (z *ℤ pos 1 +ℤ z)
    doubled {z} h = omega (arith, ints)

-- two grid points at one place
one_place : (m : RatPoint) (e f : Point) → pos 0 <ℤ m.k → IsAt m e → IsAt m f → e ≡ f
one_place m e f km h j = same_place e f (equal e.x f.x (sym h.x_is ∙ j.x_is)) (equal e.y f.y (sym h.y_is ∙ j.y_is))
  where
    equal : (u w : ℤ) → u *ℤ m.k ≡ w *ℤ m.k → u ≡ w
    equal u w e = both (le_cancel u w m.k km (omega (arith, ints, e))) (le_cancel w u m.k km (omega (arith, ints, e)))
      where
        both : {u w : ℤ} → u ≤ℤ w → w ≤ℤ u → u ≡ w
        both {u} {w} f g = omega (arith, ints)

from_end : (e g f g' : Point) → e ≡ f → HaveNoInner e g f g' → (q : RatPoint) → pos 0 <ℤ q.k → IsOnSegment q (whole e) (whole g) → IsOnSegment q (whole f) (whole g') → IsAt q e
from_end e g f g' s n q kq h j = only_end e g g' (subst (λ (z : Point). HaveNoInner e g z g') (sym s) n) q kq h (subst (λ (z : Point). IsOnSegment q (whole z) (whole g')) (sym s) j)

pub shares_tangle : (a b c d : Point) → ¬ (a ≡ b) → ¬ (c ≡ d) → (DoTangle a b c d → ⊥) → ShareAtMostAnEnd a b c d
shares_tangle a b c d n n' t = elim (separate_or_meet (whole a) (whole b) c d n' (omega (arith, ints)) (omega (arith, ints))) [
  | inl p ↦ nothing (λ q s. separated_apart (whole a) (whole b) (whole c) (whole d) (omega (arith, ints)) (omega (arith, ints)) (omega (arith, ints)) (omega (arith, ints)) p
      (record { at = q; rational = s.rational.positive; on_first = first q s; on_second = second q s }))
  | inr m ↦ ends m (placed m.at a b m.on_first) (placed m.at c d m.on_second)
]
  where
    first : (q : RatPoint) → IsShared q a b c d → IsOnSegment q (whole a) (whole b)
    first q s = closed_segment a b q s.rational.positive s.on_first

    second : (q : RatPoint) → IsShared q a b c d → IsOnSegment q (whole c) (whole d)
    second q s = closed_segment c d q s.rational.positive s.on_second

    first_back : (q : RatPoint) → IsShared q a b c d → IsOnSegment q (whole b) (whole a)
    first_back q s = on_back q (whole a) (whole b) (first q s)

    second_back : (q : RatPoint) → IsShared q a b c d → IsOnSegment q (whole d) (whole c)
    second_back q s = on_back q (whole c) (whole d) (second q s)

    none : HaveNoInner a b c d
    none m km h j = t (inner_tangles a b c d m n n' km h j)

    ends : (m : DoMeet (whole a) (whole b) (whole c) (whole d)) → IsPlaced m.at a b → IsPlaced m.at c d → ShareAtMostAnEnd a b c d
    ends m (inner h) (inner j) = absurd (none m.at m.rational h j)
    ends m (inner h) (at_start j) = absurd (t (second_start (inner_open m.at c a b n m.rational j h)))
    ends m (inner h) (at_finish j) = absurd (t (second_end (inner_open m.at d a b n m.rational j h)))
    ends m (at_start h) (inner j) = absurd (t (first_start (inner_open m.at a c d n' m.rational h j)))
    ends m (at_finish h) (inner j) = absurd (t (first_end (inner_open m.at b c d n' m.rational h j)))
    ends m (at_start h) (at_start j) = one_end a (inl refl) (inl (one_place m.at a c m.rational h j))
        (λ q s. from_end a b c d (one_place m.at a c m.rational h j) none q s.rational.positive (first q s) (second q s))
    ends m (at_start h) (at_finish j) = one_end a (inl refl) (inr (one_place m.at a d m.rational h j))
        (λ q s. from_end a b d c (one_place m.at a d m.rational h j) (λ m km h j. none m km h (inner_back m d c j)) q s.rational.positive (first q s) (second_back q s))
    ends m (at_finish h) (at_start j) = one_end b (inr refl) (inl (one_place m.at b c m.rational h j))
        (λ q s. from_end b a c d (one_place m.at b c m.rational h j) (λ m km h j. none m km (inner_back m b a h) j) q s.rational.positive (first_back q s) (second q s))
    ends m (at_finish h) (at_finish j) = one_end b (inr refl) (inr (one_place m.at b d m.rational h j))
        (λ q s. from_end b a d c (one_place m.at b d m.rational h j) (λ m km h j. none m km (inner_back m b a h) (inner_back m d c j)) q s.rational.positive (first_back q s) (second_back q s))

-- the test of a tangle, by what is shared
pub tangle_test : (a b c d : Point) (r : Bool) → (r ≡ true → DoTangle a b c d) × (DoTangle a b c d → r ≡ true) → ¬ (a ≡ b) → ¬ (c ≡ d) → (r ≡ false → ShareAtMostAnEnd a b c d) × (ShareAtMostAnEnd a b c d → r ≡ false)
tangle_test a b c d r h n n' = (λ f. shares_tangle a b c d n n' (λ t. clash r f (h.1 t)), λ s. is_false r (λ e. tangle_shares a b c d n n' (h.0 e) s))
  where
    clash : (r : Bool) → r ≡ false → r ≡ true → ⊥
    clash r f g = cc

    is_false : (r : Bool) → (r ≡ true → ⊥) → r ≡ false
    is_false true h = absurd (h refl)
    is_false false h = refl
