-- The middle between two risers that pass a strip, with none between them: on which side of it each riser is, and which of two middles is further left.
use Rattle.std.proofs.Common.{◌≡◌, ℕ, ◌<◌, ◌≤◌, Bool, true, false, List, [], ◌∷◌, slice_index_or, All, Contains, sym, ◌∙◌, ap, subst, refl, arith, inl, inr}
use lib.IntN.{ℤ, pos, ◌+ℤ◌, ◌-ℤ◌, ◌*ℤ◌}
use lib.Signed.{◌<ℤ◌, ◌≤ℤ◌}
use Rattle.std.proofs.lemmas.Int.{ints}
use Rattle.std.proofs.lemmas.Bool.{cases_lt}
use Rattle.std.proofs.lemmas.List.{get_or_default}
use Rattle.grid_geom.specs.declared.Point.{Point}
use Rattle.grid_geom.specs.declared.RatPoint.{RatPoint}
use Rattle.grid_geom.specs.Plane.{orient_rat, IsRational}
use Rattle.grid_geom.proofs.Ring.{var, num, ◌⊕◌, ◌⊖◌, ◌⊗◌, ring}
use Rattle.grid_geom.proofs.Signs.{pos_mul, pos_mul_neg, nn_np_mul, nn_mul, nn_factor}
use Rattle.geom_check.specs.declared.risers.Riser.{Riser}
use Rattle.geom_check.specs.declared.risers.Passing.{Passing}
use Rattle.geom_check.specs.Strips.{IsMiddleHeight, IsLeftOf}
use Rattle.wind_law.specs.Near.{IsSamePlace}
use Rattle.geom_check.specs.Risers.{passes, is_beside}
use Rattle.geom_check.specs.RiserOrder.{over, under, IsPassing, IsKey, IsClear, IsInStrip, IsRiserOnGrid, IsOffRisers}
use Rattle.geom_check.specs.Gaps.{middle, IsGapAfter}
use Rattle.geom_check.proofs.RiserOrder.{across}
use Rattle.geom_check.proofs.RiserPlace.{tall, side_at, middle_at, middle_k}
use Rattle.geom_check.proofs.StripWinding.{passing_test, not_beside}
use Rattle.geom_check.proofs.KeyOrder.{west_by_keys, not_west, has_key}
use Rattle.geom_check.proofs.Crossings.{positive_by}
use Rattle.geom_check.specs.declared.limits.TheConstants.{WIDTH}
use Rattle.grid_geom.specs.declared.TheConstants.{GRID}

-- m is in the middle of two risers that pass a strip, with none between them
pub record IsMidway (low high : ℤ) (rs : List Riser) (m : RatPoint) : Type 0 where
  pub left : Riser
  pub right : Riser
  pub left_key : ℕ
  pub right_key : ℕ
  pub left_among : Contains rs left
  pub right_among : Contains rs right
  pub left_passing : IsPassing low high left
  pub right_passing : IsPassing low high right
  pub left_key_is : IsKey (low +ℤ high) left left_key
  pub right_key_is : IsKey (low +ℤ high) right right_key
  pub ordered : left_key < right_key
  pub none : (t : Riser) (key : ℕ) → Contains rs t → IsPassing low high t → IsKey (low +ℤ high) t key → left_key < key → right_key ≤ key
  pub rational : IsRational m
  pub same : IsSamePlace m (middle (low +ℤ high) left right)

-- twice the side of the middle, by the places of the three risers
twice_side : (y : ℤ) (l r t : Riser) → pos 2 *ℤ orient_rat t.a t.b (middle y l r) ≡ under r *ℤ (over y t *ℤ under l -ℤ over y l *ℤ under t) +ℤ under l *ℤ (over y t *ℤ under r -ℤ over y r *ℤ under t)
twice_side y l r t = side_at y t (middle y l r) (middle_at y l r)
    ∙ ring (over y t ∷ under t ∷ over y l ∷ under l ∷ over y r ∷ under r ∷ [])
    (num (pos 2) ⊗ (var 3 ⊗ var 5) ⊗ (var 0 ⊖ num GRID ⊗ var 1) ⊖ var 1 ⊗ (var 2 ⊗ var 5 ⊕ var 4 ⊗ var 3 ⊖ num (pos WIDTH) ⊗ (var 3 ⊗ var 5)))
    (var 5 ⊗ (var 0 ⊗ var 3 ⊖ var 2 ⊗ var 1) ⊕ var 3 ⊗ (var 0 ⊗ var 5 ⊖ var 4 ⊗ var 1)) refl

-- two names of a place are on one side
same_side : (a b : Point) (m n : RatPoint) → IsSamePlace m n → n.k *ℤ orient_rat a b m ≡ m.k *ℤ orient_rat a b n
same_side a b m n s =
    ring (a.x ∷ a.y ∷ b.x ∷ b.y ∷ m.x ∷ m.y ∷ m.k ∷ n.k ∷ [])
    (var 7 ⊗ ((var 2 ⊖ var 0) ⊗ (var 5 ⊖ var 1 ⊗ var 6) ⊖ (var 3 ⊖ var 1) ⊗ (var 4 ⊖ var 0 ⊗ var 6)))
    ((var 2 ⊖ var 0) ⊗ (var 5 ⊗ var 7 ⊖ var 1 ⊗ (var 6 ⊗ var 7)) ⊖ (var 3 ⊖ var 1) ⊗ (var 4 ⊗ var 7 ⊖ var 0 ⊗ (var 6 ⊗ var 7))) refl
    ∙ ap (λ (z : ℤ). (b.x -ℤ a.x) *ℤ (z -ℤ a.y *ℤ (m.k *ℤ n.k)) -ℤ (b.y -ℤ a.y) *ℤ (m.x *ℤ n.k -ℤ a.x *ℤ (m.k *ℤ n.k))) s.same_y
    ∙ ap (λ (z : ℤ). (b.x -ℤ a.x) *ℤ (n.y *ℤ m.k -ℤ a.y *ℤ (m.k *ℤ n.k)) -ℤ (b.y -ℤ a.y) *ℤ (z -ℤ a.x *ℤ (m.k *ℤ n.k))) s.same_x
    ∙ ring (a.x ∷ a.y ∷ b.x ∷ b.y ∷ n.x ∷ n.y ∷ m.k ∷ n.k ∷ [])
    ((var 2 ⊖ var 0) ⊗ (var 5 ⊗ var 6 ⊖ var 1 ⊗ (var 6 ⊗ var 7)) ⊖ (var 3 ⊖ var 1) ⊗ (var 4 ⊗ var 6 ⊖ var 0 ⊗ (var 6 ⊗ var 7)))
    (var 6 ⊗ ((var 2 ⊖ var 0) ⊗ (var 5 ⊖ var 1 ⊗ var 7) ⊖ (var 3 ⊖ var 1) ⊗ (var 4 ⊖ var 0 ⊗ var 7))) refl

weak : (m : ℤ) → pos 0 <ℤ m → pos 0 ≤ℤ m
weak m h = omega (arith, ints)

half_below : (o m n u w : ℤ) → pos 2 *ℤ o ≡ u *ℤ m +ℤ w *ℤ n → pos 0 <ℤ u → pos 0 <ℤ w → m ≤ℤ pos 0 → n <ℤ pos 0 → o <ℤ pos 0
half_below o m n u w e hu hw hm hn = omega (arith, ints, e, nn_np_mul u m (weak u hu) hm, pos_mul_neg w n hw hn)

half_above : (o m n u w : ℤ) → pos 2 *ℤ o ≡ u *ℤ m +ℤ w *ℤ n → pos 0 <ℤ u → pos 0 <ℤ w → pos 0 <ℤ m → pos 0 ≤ℤ n → pos 0 <ℤ o
half_above o m n u w e hu hw hm hn = omega (arith, ints, e, pos_mul u m hu hm, nn_mul w n (weak w hw) hn)

negative_by : (a b c d : ℤ) → a *ℤ b ≡ c *ℤ d → pos 0 <ℤ a → pos 0 <ℤ c → d <ℤ pos 0 → b <ℤ pos 0
negative_by a b c d e h j k = nn_factor a b (subst (λ (n : ℤ). n <ℤ pos 0) (sym e) (pos_mul_neg c d j k)) (weak a h)

-- a riser up to the left one is on the left
pub on_left : (low high : ℤ) (rs : List Riser) (m : RatPoint) (g : IsMidway low high rs m) (t : Riser) (key : ℕ) → low <ℤ high → IsPassing low high t → IsKey (low +ℤ high) t key → key ≤ g.left_key → orient_rat t.a t.b m <ℤ pos 0
on_left low high rs m g t key h p k n =
    negative_by (middle (low +ℤ high) g.left g.right).k _ m.k _ (same_side t.a t.b m (middle (low +ℤ high) g.left g.right) g.same) (middle_k (low +ℤ high) g.left g.right (across low high g.left h g.left_passing) (across low high g.right h g.right_passing)) g.rational.positive
    (half_below _ _ _ (under g.right) (under g.left) (twice_side (low +ℤ high) g.left g.right t) (tall (low +ℤ high) g.right (across low high g.right h g.right_passing)) (tall (low +ℤ high) g.left (across low high g.left h g.left_passing))
    (least _ _ (not_west (low +ℤ high) t g.left key g.left_key k g.left_key_is n)) (less _ _ (west_by_keys (low +ℤ high) t g.right key g.right_key k g.right_key_is (below key g.left_key g.right_key n g.ordered))))
  where
    below : (a b c : ℕ) → a ≤ b → b < c → a < c
    below a b c h j = omega arith

    least : (m n : ℤ) → m ≤ℤ n → (m -ℤ n) ≤ℤ pos 0
    least m n h = omega (arith, ints)

    less : (m n : ℤ) → m <ℤ n → (m -ℤ n) <ℤ pos 0
    less m n h = omega (arith, ints)

-- each other one is on the right
pub on_right : (low high : ℤ) (rs : List Riser) (m : RatPoint) (g : IsMidway low high rs m) (t : Riser) (key : ℕ) → low <ℤ high → Contains rs t → IsPassing low high t → IsKey (low +ℤ high) t key → g.left_key < key → pos 0 <ℤ orient_rat t.a t.b m
on_right low high rs m g t key h c p k n =
    positive_by (middle (low +ℤ high) g.left g.right).k _ m.k _ (same_side t.a t.b m (middle (low +ℤ high) g.left g.right) g.same) (middle_k (low +ℤ high) g.left g.right (across low high g.left h g.left_passing) (across low high g.right h g.right_passing)) g.rational.positive
    (half_above _ _ _ (under g.right) (under g.left) (twice_side (low +ℤ high) g.left g.right t) (tall (low +ℤ high) g.right (across low high g.right h g.right_passing)) (tall (low +ℤ high) g.left (across low high g.left h g.left_passing))
    (more _ _ (west_by_keys (low +ℤ high) g.left t g.left_key key g.left_key_is k n)) (most _ _ (not_west (low +ℤ high) g.right t g.right_key key g.right_key_is k (g.none t key c p k n))))
  where
    most : (m n : ℤ) → m ≤ℤ n → pos 0 ≤ℤ (n -ℤ m)
    most m n h = omega (arith, ints)

    more : (m n : ℤ) → m <ℤ n → pos 0 <ℤ (n -ℤ m)
    more m n h = omega (arith, ints)

-- a place at the middle height of a strip is in it
pub in_strip : (low high : ℤ) (m : RatPoint) → low <ℤ high → IsMiddleHeight low high m → IsInStrip low high m
in_strip low high m h e = record {
  rational = e.rational.positive;
  from_low = least m.y (low *ℤ m.k) (high *ℤ m.k) ((high -ℤ low) *ℤ m.k) (e.middle ∙ parts) wide (pos_mul (high -ℤ low) m.k (omega (arith, ints)) e.rational.positive);
  below_high = below m.y (low *ℤ m.k) (high *ℤ m.k) ((high -ℤ low) *ℤ m.k) (e.middle ∙ parts) wide (pos_mul (high -ℤ low) m.k (omega (arith, ints)) e.rational.positive);
}
  where
    parts : (low +ℤ high) *ℤ m.k ≡ low *ℤ m.k +ℤ high *ℤ m.k
    parts = ring (low ∷ high ∷ m.k ∷ []) ((var 0 ⊕ var 1) ⊗ var 2) (var 0 ⊗ var 2 ⊕ var 1 ⊗ var 2) refl

    wide : (high -ℤ low) *ℤ m.k ≡ high *ℤ m.k -ℤ low *ℤ m.k
    wide = ring (low ∷ high ∷ m.k ∷ []) ((var 1 ⊖ var 0) ⊗ var 2) (var 1 ⊗ var 2 ⊖ var 0 ⊗ var 2) refl

    least : (y l u d : ℤ) → pos 2 *ℤ y ≡ l +ℤ u → d ≡ u -ℤ l → pos 0 <ℤ d → l ≤ℤ y
    least y l u d e f h = omega (arith, ints)

    below : (y l u d : ℤ) → pos 2 *ℤ y ≡ l +ℤ u → d ≡ u -ℤ l → pos 0 <ℤ d → y <ℤ u
    below y l u d e f h = omega (arith, ints)

-- such a place is off the risers
pub off_midway : (low high : ℤ) (rs : List Riser) (m : RatPoint) → IsMidway low high rs m → low <ℤ high → IsInStrip low high m → All (IsClear low high) rs → All IsRiserOnGrid rs → IsOffRisers m rs
off_midway low high rs m g h s clear grid i d j b z = by_test (passes low high (slice_index_or rs i d)) refl
  where
    clash : (b : Bool) → b ≡ true → b ≡ false → ⊥
    clash b e f = cc

    negative : (o : ℤ) → o <ℤ pos 0 → o ≡ pos 0 → ⊥
    negative o h e = omega (arith, ints)

    positive : (o : ℤ) → pos 0 <ℤ o → o ≡ pos 0 → ⊥
    positive o h e = omega (arith, ints)

    by_key : (key : ℕ) → IsPassing low high (slice_index_or rs i d) → IsKey (low +ℤ high) (slice_index_or rs i d) key → ⊥
    by_key key p k = elim (cases_lt g.left_key key) [
      | inl l ↦ positive _ (on_right low high rs m g (slice_index_or rs i d) key h (i, j, again) p k l) z
      | inr l ↦ negative _ (on_left low high rs m g (slice_index_or rs i d) key h p k l) z
    ]
      where
        again : slice_index_or rs i (slice_index_or rs i d) ≡ slice_index_or rs i d
        again = get_or_default rs i (slice_index_or rs i d) d j

    by_test : (t : Bool) → passes low high (slice_index_or rs i d) ≡ t → ⊥
    by_test true e = let k = has_key low high (slice_index_or rs i d) h (grid i d j) (passing_test low high (slice_index_or rs i d) e) in by_key k.0 (passing_test low high (slice_index_or rs i d) e) k.1
    by_test false e = clash (is_beside m (slice_index_or rs i d)) b (not_beside low high m (slice_index_or rs i d) s (clear i d j) e)

-- ---- the middle of risers further right is not further left
moved : (x k z m : ℤ) (n o : RatPoint) → x *ℤ n.k ≡ n.x *ℤ k → z *ℤ o.k ≡ o.x *ℤ m → (k *ℤ m) *ℤ (n.x *ℤ o.k -ℤ o.x *ℤ n.k) ≡ (n.k *ℤ o.k) *ℤ (x *ℤ m -ℤ z *ℤ k)
moved x k z m n o e f =
    ring (k ∷ m ∷ n.x ∷ n.k ∷ o.x ∷ o.k ∷ []) ((var 0 ⊗ var 1) ⊗ (var 2 ⊗ var 5 ⊖ var 4 ⊗ var 3)) ((var 2 ⊗ var 0) ⊗ (var 1 ⊗ var 5) ⊖ (var 4 ⊗ var 1) ⊗ (var 0 ⊗ var 3)) refl
    ∙ ap (λ (a : ℤ). a *ℤ (m *ℤ o.k) -ℤ (o.x *ℤ m) *ℤ (k *ℤ n.k)) (sym e) ∙ ap (λ (a : ℤ). (x *ℤ n.k) *ℤ (m *ℤ o.k) -ℤ a *ℤ (k *ℤ n.k)) (sym f)
    ∙ ring (x ∷ k ∷ z ∷ m ∷ n.k ∷ o.k ∷ []) ((var 0 ⊗ var 4) ⊗ (var 3 ⊗ var 5) ⊖ (var 2 ⊗ var 5) ⊗ (var 1 ⊗ var 4)) ((var 4 ⊗ var 5) ⊗ (var 0 ⊗ var 3 ⊖ var 2 ⊗ var 1)) refl

middles : (y : ℤ) (l r p q : Riser) → (middle y l r).x *ℤ (middle y p q).k -ℤ (middle y p q).x *ℤ (middle y l r).k
    ≡ pos 2 *ℤ ((under r *ℤ under q) *ℤ (over y l *ℤ under p -ℤ over y p *ℤ under l) +ℤ (under l *ℤ under p) *ℤ (over y r *ℤ under q -ℤ over y q *ℤ under r))
middles y l r p q =
    ring (over y l ∷ under l ∷ over y r ∷ under r ∷ over y p ∷ under p ∷ over y q ∷ under q ∷ [])
    ((var 0 ⊗ var 3 ⊕ var 2 ⊗ var 1 ⊖ num (pos WIDTH) ⊗ (var 1 ⊗ var 3)) ⊗ (num (pos 2) ⊗ (var 5 ⊗ var 7)) ⊖ (var 4 ⊗ var 7 ⊕ var 6 ⊗ var 5 ⊖ num (pos WIDTH) ⊗ (var 5 ⊗ var 7)) ⊗ (num (pos 2) ⊗ (var 1 ⊗ var 3)))
    (num (pos 2) ⊗ ((var 3 ⊗ var 7) ⊗ (var 0 ⊗ var 5 ⊖ var 4 ⊗ var 1) ⊕ (var 1 ⊗ var 5) ⊗ (var 2 ⊗ var 7 ⊖ var 6 ⊗ var 3))) refl

pub not_left : (low high : ℤ) (rs : List Riser) (at m : RatPoint) (g : IsMidway low high rs at) (w : IsMidway low high rs m) → low <ℤ high → g.left_key ≤ w.left_key → g.right_key ≤ w.right_key → IsLeftOf m at → ⊥
not_left low high rs at m g w h j k l =
    none _ (under g.right *ℤ under w.right) _ (under g.left *ℤ under w.left) _ (middles (low +ℤ high) g.left g.right w.left w.right)
    (positive_by (at.k *ℤ m.k) _ ((middle (low +ℤ high) g.left g.right).k *ℤ (middle (low +ℤ high) w.left w.right).k) _ (moved at.x at.k m.x m.k (middle (low +ℤ high) g.left g.right) (middle (low +ℤ high) w.left w.right) g.same.same_x w.same.same_x) (pos_mul at.k m.k g.rational.positive w.rational.positive)
    (pos_mul _ _ (middle_k (low +ℤ high) g.left g.right (across low high g.left h g.left_passing) (across low high g.right h g.right_passing)) (middle_k (low +ℤ high) w.left w.right (across low high w.left h w.left_passing) (across low high w.right h w.right_passing))) (more (m.x *ℤ at.k) (at.x *ℤ m.k) l))
    (pos_mul (under g.right) (under w.right) (tall (low +ℤ high) g.right (across low high g.right h g.right_passing)) (tall (low +ℤ high) w.right (across low high w.right h w.right_passing)))
    (pos_mul (under g.left) (under w.left) (tall (low +ℤ high) g.left (across low high g.left h g.left_passing)) (tall (low +ℤ high) w.left (across low high w.left h w.left_passing)))
    (least _ _ (not_west (low +ℤ high) g.left w.left g.left_key w.left_key g.left_key_is w.left_key_is j)) (least _ _ (not_west (low +ℤ high) g.right w.right g.right_key w.right_key g.right_key_is w.right_key_is k))
  where
    least : (m n : ℤ) → m ≤ℤ n → (m -ℤ n) ≤ℤ pos 0
    least m n h = omega (arith, ints)

    more : (m n : ℤ) → m <ℤ n → pos 0 <ℤ (n -ℤ m)
    more m n h = omega (arith, ints)

    none : (d u m w n : ℤ) → d ≡ pos 2 *ℤ (u *ℤ m +ℤ w *ℤ n) → pos 0 <ℤ d → pos 0 <ℤ u → pos 0 <ℤ w → m ≤ℤ pos 0 → n ≤ℤ pos 0 → ⊥
    none d u m w n e hd hu hw hm hn = omega (arith, ints, e, nn_np_mul u m (weak u hu) hm, nn_np_mul w n (weak w hw) hn)

-- the middle of the gap to the right of a riser
abbrev pub midway_after : (low high : ℤ) (rs : List Riser) (left : Passing) (at : RatPoint) → Contains rs left.riser → IsPassing low high left.riser → IsKey (low +ℤ high) left.riser left.key → IsGapAfter low high rs left at → IsMidway low high rs at
midway_after low high rs left at c p k g = record {
  left = left.riser;
  right = g.right.riser;
  left_key = left.key;
  right_key = g.right.key;
  left_among = c;
  right_among = g.end.to_right.among;
  left_passing = p;
  right_passing = g.end.to_right.passing;
  left_key_is = k;
  right_key_is = g.end.to_right.key_is;
  ordered = g.end.to_right.greater;
  none = λ t key b o l n. g.end.nearest b.0 t key b.1 (subst (λ (r : Riser). IsPassing low high r) (sym b.2) o) (subst (λ (r : Riser). IsKey (low +ℤ high) r key) (sym b.2) l) n;
  rational = g.middle_is.rational;
  same = g.middle_is.same;
}
