-- Two closed segments between grid points have a rational point in common exactly where their boxes meet and neither has both ends strictly on one side of the other's line.
-- Stands on Meeting (where lines cross, points of one line), Means (a line between two segments) and OnSegment (box and weights); serves `segments_meet`.
use lib.IntN.{ℤ, pos, ◌+ℤ◌, ◌-ℤ◌, ◌*ℤ◌}
use lib.Signed.{◌<ℤ◌, ◌≤ℤ◌}
use mathlib.Core.Path.{◌≡◌, refl, sym, ap, ◌∙◌, subst}
use mathlib.Core.List.{[], ◌∷◌}
use mathlib.Core.Logic.{◌⊎◌, inl, inr}
use native.Mathlib.Omega.{arith}
use Rattle.std.proofs.lemmas.Int.{ints, clamps}
use Rattle.std.specs.Int.{int_max, int_min}
use Rattle.grid_geom.specs.declared.Point.{Point}
use Rattle.grid_geom.specs.declared.RatPoint.{RatPoint}
use Rattle.grid_geom.specs.Plane.{orient, orient_rat}
use Rattle.grid_geom.specs.Line.{side, whole}
use Rattle.grid_geom.specs.Segment.{IsOnSegment, DoMeet, IsSeparated}
use Rattle.grid_geom.specs.Sides.{IsOnClosed, DoSpansMeet, DoBoxesMeet, AreBeside, both_left, both_right}
use Rattle.grid_geom.specs.Sharing.{DoShare}
use Rattle.grid_geom.proofs.Ring.{var, num, ◌⊕◌, ◌⊖◌, ◌⊗◌, ring}
use Rattle.grid_geom.proofs.Signs.{nn_mul, pos_mul, pos_mul_neg, either, ordered, pos_factor, le_cancel}
use Rattle.grid_geom.proofs.Lines.{det, orient_det, orient_whole, orient_back, same_place}
use Rattle.grid_geom.proofs.Meeting as meeting
use Rattle.grid_geom.proofs.Meeting.{AreBeyond, beyond_d, beyond_c, beyond, beyond_or_meet, crossing_point, rising_ends, meet_back, first_end, squared, squared_pos, place_x, place_y, end_swap}
use Rattle.grid_geom.proofs.Means.{separated_apart}
use Rattle.grid_geom.proofs.OnSegment.{on_segment, on_closed}

-- ---- points
pub same_or_not : (a b : Point) → (a ≡ b) ⊎ ¬ (a ≡ b)
same_or_not a b = elim (ordered a.x b.x) [
  | inl h ↦ inr (λ e. less (ap (λ (z : Point). z.x) e) h)
  | inr r ↦ elim r [
    | inr h ↦ inr (λ e. less (sym (ap (λ (z : Point). z.x) e)) h)
    | inl e ↦ elim (ordered a.y b.y) [
      | inl h ↦ inr (λ e. less (ap (λ (z : Point). z.y) e) h)
      | inr s ↦ elim s [ inl f ↦ inl (same_place a b e f) | inr h ↦ inr (λ e. less (sym (ap (λ (z : Point). z.y) e)) h) ]
    ]
  ]
]
  where
    less : {x y : ℤ} → x ≡ y → x <ℤ y → ⊥
    less {x} {y} e h = omega (arith, ints)

-- a point of the box of one point is that point
squeezed : (u w k x : ℤ) → u ≡ w → (int_min u w *ℤ k) ≤ℤ x → x ≤ℤ (int_max u w *ℤ k) → x ≡ u *ℤ k
squeezed u w k x e h j = both (u *ℤ k) (subst (λ (m : ℤ). (m *ℤ k) ≤ℤ x) (omega (arith, ints, clamps)) h) (subst (λ (m : ℤ). x ≤ℤ (m *ℤ k)) (omega (arith, ints, clamps)) j)
  where
    both : (m : ℤ) → m ≤ℤ x → x ≤ℤ m → x ≡ m
    both m f g = omega (arith, ints)

-- by box, then by weights, also where the segment is a point
pub closed_segment : (a b : Point) (q : RatPoint) → pos 0 <ℤ q.k → IsOnClosed q a b → IsOnSegment q (whole a) (whole b)
closed_segment a b q kq h = elim (same_or_not a b) [
  | inr n ↦ on_segment a b q n kq h
  | inl e ↦ record {
    of_p = pos 1;
    of_q = pos 0;
    p_weight = omega (arith, ints);
    q_weight = omega (arith, ints);
    weighted = omega (arith, ints);
    mean_x = alone q.x q.k a.x b.x (squeezed a.x b.x q.k q.x (ap (λ (z : Point). z.x) e) h.right_of_least h.left_of_greatest);
    mean_y = alone q.y q.k a.y b.y (squeezed a.y b.y q.k q.y (ap (λ (z : Point). z.y) e) h.above_least h.below_greatest);
  }
]
  where
    alone : (x k u w : ℤ) → x ≡ u *ℤ k → x *ℤ (pos 1 *ℤ pos 1 +ℤ pos 0 *ℤ pos 1) ≡ k *ℤ (pos 1 *ℤ u +ℤ pos 0 *ℤ w)
    alone x k u w e = ap (λ (z : ℤ). z *ℤ (pos 1 *ℤ pos 1 +ℤ pos 0 *ℤ pos 1)) e ∙ ring (k ∷ u ∷ w ∷ []) ((var 1 ⊗ var 0) ⊗ (num (pos 1) ⊗ num (pos 1) ⊕ num (pos 0) ⊗ num (pos 1))) (var 0 ⊗ (num (pos 1) ⊗ var 1 ⊕ num (pos 0) ⊗ var 2)) refl

-- ---- a shared point: neither segment is beside the other, and the boxes meet
pub meet_of : (a b c d : Point) → DoShare a b c d → DoMeet (whole a) (whole b) (whole c) (whole d)
meet_of a b c d s = record { at = s.at; rational = s.shared.rational.positive; on_first = closed_segment a b s.at s.shared.rational.positive s.shared.on_first; on_second = closed_segment c d s.at s.shared.rational.positive s.shared.on_second }

pub shared_of : (a b c d : Point) → DoMeet (whole a) (whole b) (whole c) (whole d) → DoShare a b c d
shared_of a b c d m = record { at = m.at; shared = record { rational = record { positive = m.rational }; on_first = on_closed a b m.at m.rational m.on_first; on_second = on_closed c d m.at m.rational m.on_second } }

pub share_turned : (a b c d : Point) → DoShare a b c d → DoShare c d a b
share_turned a b c d s = record { at = s.at; shared = record { rational = s.shared.rational; on_first = s.shared.on_second; on_second = s.shared.on_first } }

parted : (p q c d : Point) → IsSeparated (whole p) (whole q) (whole c) (whole d) → DoMeet (whole p) (whole q) (whole c) (whole d) → ⊥
parted p q c d = separated_apart (whole p) (whole q) (whole c) (whole d) (omega (arith, ints)) (omega (arith, ints)) (omega (arith, ints)) (omega (arith, ints))

pub share_not_beside : (a b c d : Point) → DoShare a b c d → AreBeside a b c d → ⊥
share_not_beside a b c d s (both_left h j) = parted c d a b (meeting.both_left (whole c) (whole d) a b (left h (orient_whole a b c)) (left j (orient_whole a b d))) (meet_of c d a b (share_turned a b c d s))
  where
    left : {y z : ℤ} → pos 0 <ℤ z → y ≡ z → pos 0 <ℤ y
    left {y} {z} h e = omega (arith, ints)
share_not_beside a b c d s (both_right h j) = parted c d a b
    (end_swap (whole c) (whole d) (whole b) (whole a) (meeting.both_left (whole c) (whole d) b a (right h (orient_whole a b c) (orient_back a b (whole c))) (right j (orient_whole a b d) (orient_back a b (whole d)))))
    (meet_of c d a b (share_turned a b c d s))
  where
    right : {x y z : ℤ} → z <ℤ pos 0 → y ≡ z → x ≡ pos 0 -ℤ y → pos 0 <ℤ x
    right {x} {y} {z} h e f = omega (arith, ints)

pub share_boxes : (a b c d : Point) → DoShare a b c d → DoBoxesMeet a b c d
share_boxes a b c d s = record {
  columns = spans a.x b.x c.x d.x s.at.x s.at.k s.shared.rational.positive s.shared.on_first.right_of_least s.shared.on_first.left_of_greatest s.shared.on_second.right_of_least s.shared.on_second.left_of_greatest;
  rows = spans a.y b.y c.y d.y s.at.y s.at.k s.shared.rational.positive s.shared.on_first.above_least s.shared.on_first.below_greatest s.shared.on_second.above_least s.shared.on_second.below_greatest;
}
  where
    through : (m n x k : ℤ) → pos 0 <ℤ k → (m *ℤ k) ≤ℤ x → x ≤ℤ (n *ℤ k) → m ≤ℤ n
    through m n x k hk f g = le_cancel m n k hk (joined f g)
      where
        joined : {u w : ℤ} → u ≤ℤ x → x ≤ℤ w → u ≤ℤ w
        joined {u} {w} f g = omega (arith, ints)

    spans : (u w y z x k : ℤ) → pos 0 <ℤ k → (int_min u w *ℤ k) ≤ℤ x → x ≤ℤ (int_max u w *ℤ k) → (int_min y z *ℤ k) ≤ℤ x → x ≤ℤ (int_max y z *ℤ k) → DoSpansMeet u w y z
    spans u w y z x k hk f g h j = record { not_after = through (int_min u w) (int_max y z) x k hk f j; not_before = through (int_min y z) (int_max u w) x k hk h g }

-- ---- and the other way
-- beyond one end of a span: no number in common
off_span : (n b b' x x' c d : ℤ) → n *ℤ (x -ℤ d) ≡ (d -ℤ c) *ℤ b → n *ℤ (x' -ℤ d) ≡ (d -ℤ c) *ℤ b' → pos 0 <ℤ n → pos 0 <ℤ b → pos 0 <ℤ b' → ¬ (c ≡ d) → DoSpansMeet x x' c d → ⊥
off_span n b b' x x' c d e e' hn hb hb' m s = elim (ordered c d) [
  | inl h ↦ after h (pos_factor n (x -ℤ d) (omega (arith, ints, e, pos_mul (d -ℤ c) b (omega (arith, ints)) hb)) (omega (arith, ints))) (pos_factor n (x' -ℤ d) (omega (arith, ints, e', pos_mul (d -ℤ c) b' (omega (arith, ints)) hb')) (omega (arith, ints))) s.not_after
  | inr r ↦ elim r [
    | inl f ↦ m f
    | inr h ↦ before h (lower x b e hb h) (lower x' b' e' hb' h) s.not_before
  ]
]
  where
    after : c <ℤ d → pos 0 <ℤ (x -ℤ d) → pos 0 <ℤ (x' -ℤ d) → int_min x x' ≤ℤ int_max c d → ⊥
    after h f g j = omega (arith, ints, clamps)

    before : d <ℤ c → (x -ℤ d) <ℤ pos 0 → (x' -ℤ d) <ℤ pos 0 → int_min c d ≤ℤ int_max x x' → ⊥
    before h f g j = omega (arith, ints, clamps)

    lower : (x b : ℤ) → n *ℤ (x -ℤ d) ≡ (d -ℤ c) *ℤ b → pos 0 <ℤ b → d <ℤ c → (x -ℤ d) <ℤ pos 0
    lower x b e hb h = elim (either (pos 0) (x -ℤ d)) [ inr i ↦ i | inl i ↦ absurd (negative i) ]
      where
        negative : pos 0 ≤ℤ (x -ℤ d) → ⊥
        negative i = omega (arith, ints, e, pos_mul_neg b (d -ℤ c) hb (omega (arith, ints)), nn_mul n (x -ℤ d) (omega (arith, ints)) i)

off_boxes : (a b c d : Point) → ¬ (c ≡ d) → orient_rat c d (whole a) ≡ pos 0 → orient_rat c d (whole b) ≡ pos 0 → pos 0 <ℤ side (beyond c d) (whole a) → pos 0 <ℤ side (beyond c d) (whole b) → DoBoxesMeet a b c d → ⊥
off_boxes a b c d n ea eb ha hb s = elim (ordered c.x d.x) [
  | inl h ↦ columns (λ e. less e h)
  | inr r ↦ elim r [
    | inr h ↦ columns (λ e. less (sym e) h)
    | inl e ↦ off_span (squared c d) (side (beyond c d) (whole a)) (side (beyond c d) (whole b)) a.y b.y c.y d.y
        (plain (squared c d) a.y d.y _ _ (place_y c d (whole a)) ea) (plain (squared c d) b.y d.y _ _ (place_y c d (whole b)) eb) (squared_pos c d n) ha hb (λ f. n (same_place c d e f)) s.rows
  ]
]
  where
    less : {x y : ℤ} → x ≡ y → x <ℤ y → ⊥
    less {x} {y} e h = omega (arith, ints)

    plain : (n x z m o : ℤ) {g : ℤ} → n *ℤ (x -ℤ z *ℤ pos 1) ≡ g -ℤ m *ℤ o → o ≡ pos 0 → n *ℤ (x -ℤ z) ≡ g
    plain n x z m o {g} e f = ring (n ∷ x ∷ z ∷ []) (var 0 ⊗ (var 1 ⊖ var 2)) (var 0 ⊗ (var 1 ⊖ var 2 ⊗ num (pos 1))) refl ∙ e ∙ ap (λ (o : ℤ). g -ℤ m *ℤ o) f ∙ ring (g ∷ m ∷ []) (var 0 ⊖ var 1 ⊗ num (pos 0)) (var 0) refl

    columns : ¬ (c.x ≡ d.x) → ⊥
    columns m = off_span (squared c d) (side (beyond c d) (whole a)) (side (beyond c d) (whole b)) a.x b.x c.x d.x
        (plain (squared c d) a.x d.x _ _ (place_x c d (whole a)) ea) (plain (squared c d) b.x d.x _ _ (place_x c d (whole b)) eb) (squared_pos c d n) ha hb m s.columns

spans_turned : (u w y z : ℤ) → DoSpansMeet u w y z → DoSpansMeet u w z y
spans_turned u w y z s = record { not_after = omega (arith, ints, clamps, s.not_after); not_before = omega (arith, ints, clamps, s.not_before) }

not_beyond : (a b c d : Point) → ¬ (c ≡ d) → orient_rat c d (whole a) ≡ pos 0 → orient_rat c d (whole b) ≡ pos 0 → DoBoxesMeet a b c d → AreBeyond (whole a) (whole b) c d → ⊥
not_beyond a b c d n ea eb s (beyond_d ha hb) = off_boxes a b c d n ea eb ha hb s
not_beyond a b c d n ea eb s (beyond_c ha hb) = off_boxes a b d c (λ e. n (sym e)) (back ea (orient_back c d (whole a))) (back eb (orient_back c d (whole b))) ha hb
    (record { columns = spans_turned a.x b.x c.x d.x s.columns; rows = spans_turned a.y b.y c.y d.y s.rows })
  where
    back : {y z : ℤ} → z ≡ pos 0 → y ≡ pos 0 -ℤ z → y ≡ pos 0
    back {y} {z} e f = omega (arith, ints)

det_whole : (a b c : Point) → det (whole a) (whole b) (whole c) ≡ orient a b c
det_whole a b c = sym (orient_det a b (whole c)) ∙ orient_whole a b c

back : (a b c : Point) → orient b a c ≡ pos 0 -ℤ orient a b c
back a b c = sym (orient_whole b a c) ∙ orient_back a b (whole c) ∙ ap (λ (z : ℤ). pos 0 -ℤ z) (orient_whole a b c)

-- a on the closed left of c-d, b on its closed right, not both on it, and c and d not beside a-b
pub leftward : (a b c d : Point) → ¬ AreBeside a b c d → pos 0 ≤ℤ orient c d a → orient c d b ≤ℤ pos 0 → pos 0 <ℤ (orient c d a -ℤ orient c d b) → DoMeet (whole a) (whole b) (whole c) (whole d)
leftward a b c d ab ha hb some = crossing_point (whole a) (whole b) c d (omega (arith, ints)) (omega (arith, ints)) pa pb pd (at_least (det_whole a b d) d_left) (at_most (det_whole a b c) c_right)
  where
    pa : pos 0 ≤ℤ orient_rat c d (whole a)
    pa = subst (λ (z : ℤ). pos 0 ≤ℤ z) (sym (orient_whole c d a)) ha

    pb : orient_rat c d (whole b) ≤ℤ pos 0
    pb = subst (λ (z : ℤ). z ≤ℤ pos 0) (sym (orient_whole c d b)) hb

    pd : pos 0 <ℤ (orient_rat c d (whole a) -ℤ orient_rat c d (whole b))
    pd = both some (orient_whole c d a) (orient_whole c d b)
      where
        both : {u w y z : ℤ} → pos 0 <ℤ (y -ℤ z) → u ≡ y → w ≡ z → pos 0 <ℤ (u -ℤ w)
        both {u} {w} {y} {z} h e f = omega (arith, ints)

    rises : pos 0 <ℤ (orient a b d -ℤ orient a b c)
    rises = both (rising_ends (whole a) (whole b) c d (omega (arith, ints)) (omega (arith, ints)) pa pb pd) (det_whole a b d) (det_whole a b c)
      where
        both : {u w y z : ℤ} → pos 0 <ℤ (y -ℤ z) → y ≡ u → z ≡ w → pos 0 <ℤ (u -ℤ w)
        both {u} {w} {y} {z} h e f = omega (arith, ints)

    d_left : pos 0 ≤ℤ orient a b d
    d_left = elim (either (pos 0) (orient a b d)) [ inl h ↦ h | inr h ↦ absurd (ab (both_right (lower rises h) h)) ]
      where
        lower : {y z : ℤ} → pos 0 <ℤ (y -ℤ z) → y <ℤ pos 0 → z <ℤ pos 0
        lower {y} {z} f g = omega (arith, ints)

    c_right : orient a b c ≤ℤ pos 0
    c_right = elim (either (orient a b c) (pos 0)) [ inl h ↦ h | inr h ↦ absurd (ab (both_left h (higher rises h))) ]
      where
        higher : {y z : ℤ} → pos 0 <ℤ (y -ℤ z) → pos 0 <ℤ z → pos 0 <ℤ y
        higher {y} {z} f g = omega (arith, ints)

    at_least : {y z : ℤ} → y ≡ z → pos 0 ≤ℤ z → pos 0 ≤ℤ y
    at_least {y} {z} e h = omega (arith, ints)

    at_most : {y z : ℤ} → y ≡ z → z ≤ℤ pos 0 → y ≤ℤ pos 0
    at_most {y} {z} e h = omega (arith, ints)

pub beside_back : (a b c d : Point) → AreBeside b a c d → AreBeside a b c d
beside_back a b c d (both_left h j) = both_right (less (back a b c) h) (less (back a b d) j)
  where
    less : {y z : ℤ} → y ≡ pos 0 -ℤ z → pos 0 <ℤ y → z <ℤ pos 0
    less {y} {z} e h = omega (arith, ints)
beside_back a b c d (both_right h j) = both_left (more (back a b c) h) (more (back a b d) j)
  where
    more : {y z : ℤ} → y ≡ pos 0 -ℤ z → y <ℤ pos 0 → pos 0 <ℤ z
    more {y} {z} e h = omega (arith, ints)

pub rightward : (a b c d : Point) → ¬ AreBeside a b c d → orient c d a ≤ℤ pos 0 → pos 0 ≤ℤ orient c d b → pos 0 <ℤ (orient c d b -ℤ orient c d a) → DoMeet (whole a) (whole b) (whole c) (whole d)
rightward a b c d ab ha hb some = meet_back (whole b) (whole a) (whole c) (whole d) (leftward b a c d (λ h. ab (beside_back a b c d h)) hb ha some)

-- c-d is not a point
crossing_pair : (a b c d : Point) → ¬ (c ≡ d) → DoBoxesMeet a b c d → ¬ AreBeside a b c d → ¬ AreBeside c d a b → DoMeet (whole a) (whole b) (whole c) (whole d)
crossing_pair a b c d n s ab cd = elim (ordered (orient c d a) (pos 0)) [
  | inl ha ↦ elim (either (pos 0) (orient c d b)) [
    | inr hb ↦ absurd (cd (both_right ha hb))
    | inl hb ↦ rightward a b c d ab (weak ha) hb (apart_below ha hb)
  ]
  | inr r ↦ elim r [
    | inr ha ↦ elim (either (orient c d b) (pos 0)) [
      | inr hb ↦ absurd (cd (both_left ha hb))
      | inl hb ↦ leftward a b c d ab (weak ha) hb (apart_above ha hb)
    ]
    | inl ea ↦ elim (ordered (orient c d b) (pos 0)) [
      | inl hb ↦ leftward a b c d ab (level ea) (weak hb) (apart_level ea hb)
      | inr t ↦ elim t [
        | inr hb ↦ rightward a b c d ab (level' ea) (weak hb) (apart_level' ea hb)
        | inl eb ↦ elim (beyond_or_meet (whole a) (whole b) c d n (omega (arith, ints)) (omega (arith, ints)) (orient_whole c d a ∙ ea) (orient_whole c d b ∙ eb))
            [ inl h ↦ absurd (not_beyond a b c d n (orient_whole c d a ∙ ea) (orient_whole c d b ∙ eb) s h) | inr m ↦ m ]
      ]
    ]
  ]
]
  where
    weak : {y z : ℤ} → y <ℤ z → y ≤ℤ z
    weak {y} {z} h = omega (arith, ints)

    level : {z : ℤ} → z ≡ pos 0 → pos 0 ≤ℤ z
    level {z} e = omega (arith, ints)

    level' : {z : ℤ} → z ≡ pos 0 → z ≤ℤ pos 0
    level' {z} e = omega (arith, ints)

    apart_below : {y z : ℤ} → y <ℤ pos 0 → pos 0 ≤ℤ z → pos 0 <ℤ (z -ℤ y)
    apart_below {y} {z} h j = omega (arith, ints)

    apart_above : {y z : ℤ} → pos 0 <ℤ y → z ≤ℤ pos 0 → pos 0 <ℤ (y -ℤ z)
    apart_above {y} {z} h j = omega (arith, ints)

    apart_level : {y z : ℤ} → y ≡ pos 0 → z <ℤ pos 0 → pos 0 <ℤ (y -ℤ z)
    apart_level {y} {z} e h = omega (arith, ints)

    apart_level' : {y z : ℤ} → y ≡ pos 0 → pos 0 <ℤ z → pos 0 <ℤ (z -ℤ y)
    apart_level' {y} {z} e h = omega (arith, ints)

boxes_turned : (a b c d : Point) → DoBoxesMeet a b c d → DoBoxesMeet c d a b
boxes_turned a b c d s = record { columns = record { not_after = s.columns.not_before; not_before = s.columns.not_after }; rows = record { not_after = s.rows.not_before; not_before = s.rows.not_after } }

pub boxes_share : (a b c d : Point) → DoBoxesMeet a b c d → ¬ AreBeside a b c d → ¬ AreBeside c d a b → DoShare a b c d
boxes_share a b c d s ab cd = elim (same_or_not c d) [
  | inr n ↦ shared_of a b c d (crossing_pair a b c d n s ab cd)
  | inl e ↦ elim (same_or_not a b) [
    | inr n ↦ share_turned c d a b (shared_of c d a b (crossing_pair c d a b n (boxes_turned a b c d s) cd ab))
    | inl f ↦ shared_of a b c d (record { at = whole a; rational = omega (arith, ints); on_first = first_end (whole a) (whole b); on_second = subst (λ (p : Point). IsOnSegment (whole p) (whole c) (whole d)) (sym (one e f)) (first_end (whole c) (whole d)) })
  ]
]
  where
    equal : (u w y z : ℤ) → u ≡ w → y ≡ z → DoSpansMeet u w y z → u ≡ y
    equal u w y z e f t = omega (arith, ints, clamps, t.not_after, t.not_before)

    one : c ≡ d → a ≡ b → a ≡ c
    one e f = same_place a c (equal a.x b.x c.x d.x (ap (λ (z : Point). z.x) f) (ap (λ (z : Point). z.x) e) s.columns) (equal a.y b.y c.y d.y (ap (λ (z : Point). z.y) f) (ap (λ (z : Point). z.y) e) s.rows)
