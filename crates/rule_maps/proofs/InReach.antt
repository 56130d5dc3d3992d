-- What a rule uses on a line lies in the line's reach. With mapped points within their leeways a row's numerator is at most its extent times q in
-- absolute value, term by term; so the local coordinates of a place that n covers are at most n, at each class. Placed, such a place is at most n q (X + Y) over the square of the length away,
-- with X and Y the extents of the line; and that is at most 2 n h, since X + Y is at most twice the length. Stands on Ranges, Compiling and Constants.
use Prim.Native.Nat.{ℕ, ◌+◌, ◌*◌, ◌-◌, ◌<◌, ◌≤◌}
use lib.IntN.{ℤ, pos, negsuc, ◌+ℤ◌, ◌-ℤ◌, ◌*ℤ◌}
use lib.Signed.{◌<ℤ◌, ◌≤ℤ◌}
use lib.ListN.{length}
use mathlib.Core.List.{List, [], ◌∷◌}
use mathlib.Core.Logic.{inl, inr}
use mathlib.Core.Bool.{Bool, true, false}
use mathlib.Core.Path.{◌≡◌, refl, sym, ap, ◌∙◌, subst}
use native.Mathlib.Omega.{arith}
use Rattle.std.specs.Int.RustNames.{unsigned_abs}
use Rattle.std.specs.List.{AllByRecursion}
use Rattle.std.specs.Prelude.{map, slice_index_or}
use Rattle.std.proofs.lemmas.Int.{ints}
use Rattle.std.proofs.lemmas.List.{get_or-map}
use Rattle.std.proofs.lemmas.Bool.Decides.{eqb_tells}
use Rattle.grid_geom.specs.declared.Point.{Point}
use Rattle.grid_geom.specs.Bounds.{IsWithin}
use Rattle.grid_geom.proofs.Ring.{var, num, ◌⊕◌, ◌⊖◌, ◌⊗◌, ring}
use Rattle.grid_geom.proofs.Signs.{nn_mul, pos_mul}
use Rattle.grid_geom.proofs.Within.{within_mul}
use Rattle.grid_geom.proofs.Quotients.{IsRounded, rounded_within}
use Rattle.rule_reader.specs.declared.rule.MapPoint.{MapPoint}
use Rattle.rule_reader.specs.declared.rule.Term.{Term}
use Rattle.rule_reader.specs.declared.rule.Place.{Place}
use Rattle.rule_reader.specs.Normal.{IsTerm, IsPlace}
use Rattle.rule_maps.specs.Fractions.{nearest}
use Rattle.rule_maps.specs.Frame.{LocalFrame, IsFrame, IsInRange, way, dot, cross}
use Rattle.rule_maps.specs.declared.reach.Leeway.{Leeway}
use Rattle.rule_maps.specs.Places.{Mapping, IsMapping, either, mapped_at, point_at, place_at, new_point, corner}
use Rattle.rule_maps.specs.Sums.{seen_at, rest_at, moving, resting, constant, constants_of, numerator, put_at}
use Rattle.rule_maps.specs.Inert.{HasBadZone}
use Rattle.rule_maps.specs.Reach.{in_range, IsNearPlace, AreNearPlaces, leeway_at, leeway_of, stretch, extent, extent_of, AreCovered, CoversFrom, Covers, CoversBy, IsInReach}
use Rattle.rule_maps.proofs.Numbers.{within_add, within_sub, within_more, root_at_most}
use Rattle.rule_maps.proofs.Rounding.{IsFloor, floor_is}
use Rattle.rule_maps.proofs.Frames.{HasBounds, frame_bounds}
use Rattle.rule_maps.proofs.Ranges.{IsExtent, extent_of_frame, extents_short, offset_within, squares_of, size_of, size_within, along_in_range, left_in_range}
use Rattle.rule_maps.proofs.Constants.{each_at}
use Rattle.rule_maps.proofs.Putting.{square_positive}
use Rattle.rule_maps.proofs.Compiling.{IsComputed, new_point_is, corner_alone, corner_is, as_many}

-- ---- a row
abs_within : (z : ℤ) → IsWithin (pos (unsigned_abs z)) z
abs_within (pos n) = record { least = omega (arith, ints); greatest = omega (arith, ints) }
abs_within (negsuc n) = record { least = omega (arith, ints); greatest = omega (arith, ints) }

-- ---- leeways
-- 10^4 q times a deviation of a point in range
deviation_within : (s r q : ℤ) → pos 0 ≤ℤ q → IsWithin (pos 13 *ℤ q) s → IsWithin (pos (130000 + unsigned_abs r) *ℤ q) (pos 10000 *ℤ s -ℤ r *ℤ q)
deviation_within s r q hq h = subst (λ (b : ℤ). IsWithin b (pos 10000 *ℤ s -ℤ r *ℤ q)) (ring (q ∷ pos (unsigned_abs r) ∷ []) (num (pos 10000) ⊗ (num (pos 13) ⊗ var 0) ⊕ var 1 ⊗ var 0) ((num (pos 130000) ⊕ var 1) ⊗ var 0) refl)
    (within_sub (pos 10000 *ℤ (pos 13 *ℤ q)) (pos (unsigned_abs r) *ℤ q) (pos 10000 *ℤ s) (r *ℤ q) (within_mul (pos 10000) (pos 13 *ℤ q) (pos 10000) s (record { least = omega (arith, ints); greatest = omega (arith, ints) }) h)
    (within_mul (pos (unsigned_abs r)) q r q (abs_within r) (record { least = omega (arith, ints, hq); greatest = omega (arith, ints) })))

-- a point in range is near its place, wherever that is
pub near_in_range : (f : LocalFrame) (p : MapPoint) (at : Point) → IsFrame f → IsInRange f at → IsNearPlace f p (in_range p) at
near_in_range f p at k r = let hq : pos 0 ≤ℤ f.q = omega (arith, ints, (frame_bounds f k).unit_least) in record {
  along = deviation_within (dot f.e (way f.p1 at)) p.x f.q hq (along_in_range f at k r);
  left = deviation_within (cross f.e (way f.p1 at)) p.y f.q hq (left_in_range f at k r);
}

pub all_in_range : (m : Mapping) → IsMapping m → AreNearPlaces m (map in_range m.rule.points)
all_in_range m h k h1 hk = subst (λ (w : Leeway). IsNearPlace m.frame (point_at m.rule.points k) w (mapped_at m.mapped k)) (sym (leeway_is m.rule.points k _ (omega (arith, h1, hk))))
    (near_in_range m.frame (point_at m.rule.points k) (mapped_at m.mapped k) h.frame (h.range (k - 1) _ (omega (arith, h1, hk, h.count))))
  where
    leeway_is : (points : List MapPoint) (k : ℕ) (d : MapPoint) → k - 1 < length points → leeway_at (map in_range points) k ≡ in_range (slice_index_or points (k - 1) d)
    leeway_is points k d w = get_or-map in_range points (k - 1) d (record { along = 0; left = 0 }) w

-- ---- a row
term_split : (c s r q M R : ℤ) → c *ℤ (pos 10000 *ℤ s -ℤ r *ℤ q) +ℤ (pos 10000 *ℤ M -ℤ q *ℤ R) ≡ pos 10000 *ℤ (c *ℤ s +ℤ M) -ℤ q *ℤ (c *ℤ r +ℤ R)
term_split c s r q M R = ring (c ∷ s ∷ r ∷ q ∷ M ∷ R ∷ []) (var 0 ⊗ (num (pos 10000) ⊗ var 1 ⊖ var 2 ⊗ var 3) ⊕ (num (pos 10000) ⊗ var 4 ⊖ var 3 ⊗ var 5)) (num (pos 10000) ⊗ (var 0 ⊗ var 1 ⊕ var 4) ⊖ var 3 ⊗ (var 0 ⊗ var 2 ⊕ var 5)) refl

bound_split : (c e s q : ℤ) → c *ℤ (e *ℤ q) +ℤ s *ℤ q ≡ (c *ℤ e +ℤ s) *ℤ q
bound_split c e s q = ring (c ∷ e ∷ s ∷ q ∷ []) (var 0 ⊗ (var 1 ⊗ var 3) ⊕ var 2 ⊗ var 3) ((var 0 ⊗ var 1 ⊕ var 2) ⊗ var 3) refl

-- a term's deviation is within its leeway
term_within : (m : Mapping) (leeways : List Leeway) (t : Term) → AreNearPlaces m leeways → IsTerm (length m.rule.points) t
    → IsWithin (pos (leeway_of leeways t) *ℤ m.frame.q) (pos 10000 *ℤ seen_at m.frame m.mapped t -ℤ rest_at m.rule.points t *ℤ m.frame.q)
term_within m leeways t near ht = by t.of_y (near t.point (omega (arith, ht.point.0)) ht.point.1)
  where
    seen : Point
    seen = way m.frame.p1 (mapped_at m.mapped t.point)

    by : (of_y : Bool) → IsNearPlace m.frame (point_at m.rule.points t.point) (leeway_at leeways t.point) (mapped_at m.mapped t.point)
        → IsWithin (pos (either of_y (leeway_at leeways t.point).along (leeway_at leeways t.point).left) *ℤ m.frame.q)
        (pos 10000 *ℤ either of_y (dot m.frame.e seen) (cross m.frame.e seen) -ℤ either of_y (point_at m.rule.points t.point).x (point_at m.rule.points t.point).y *ℤ m.frame.q)
    by false h = h.along
    by true h = h.left

-- what a row's terms are bounded by, with leeways that hold
terms_within : (m : Mapping) (leeways : List Leeway) (ts : List Term) → AreNearPlaces m leeways → AllByRecursion (IsTerm (length m.rule.points)) ts → IsWithin (pos (stretch leeways ts) *ℤ m.frame.q) (pos 10000 *ℤ moving m.frame m.mapped ts -ℤ m.frame.q *ℤ resting m.rule.points ts)
terms_within m leeways [] near ht = record { least = omega (arith, ints); greatest = omega (arith, ints) }
terms_within m leeways (t ∷ ts) near ht = subst (λ (b : ℤ). IsWithin b (pos 10000 *ℤ moving m.frame m.mapped (t ∷ ts) -ℤ m.frame.q *ℤ resting m.rule.points (t ∷ ts))) (bound_split (pos (unsigned_abs t.coefficient)) (pos (leeway_of leeways t)) (pos (stretch leeways ts)) m.frame.q)
    (subst (λ (z : ℤ). IsWithin (pos (unsigned_abs t.coefficient) *ℤ (pos (leeway_of leeways t) *ℤ m.frame.q) +ℤ pos (stretch leeways ts) *ℤ m.frame.q) z)
    (term_split t.coefficient (seen_at m.frame m.mapped t) (rest_at m.rule.points t) m.frame.q (moving m.frame m.mapped ts) (resting m.rule.points ts))
    (within_add (pos (unsigned_abs t.coefficient) *ℤ (pos (leeway_of leeways t) *ℤ m.frame.q)) (pos (stretch leeways ts) *ℤ m.frame.q) (t.coefficient *ℤ (pos 10000 *ℤ seen_at m.frame m.mapped t -ℤ rest_at m.rule.points t *ℤ m.frame.q)) (pos 10000 *ℤ moving m.frame m.mapped ts -ℤ m.frame.q *ℤ resting m.rule.points ts)
    (within_mul (pos (unsigned_abs t.coefficient)) (pos (leeway_of leeways t) *ℤ m.frame.q) t.coefficient (pos 10000 *ℤ seen_at m.frame m.mapped t -ℤ rest_at m.rule.points t *ℤ m.frame.q) (abs_within t.coefficient) (term_within m leeways t near ht.0))
    (terms_within m leeways ts near ht.1)))

row_split : (x0 q M R : ℤ) → pos 10000 *ℤ x0 *ℤ q +ℤ (pos 10000 *ℤ M -ℤ q *ℤ R) ≡ (pos 10000 *ℤ x0 -ℤ R) *ℤ q +ℤ pos 10000 *ℤ M
row_split x0 q M R = ring (x0 ∷ q ∷ M ∷ R ∷ []) (num (pos 10000) ⊗ var 0 ⊗ var 1 ⊕ (num (pos 10000) ⊗ var 2 ⊖ var 1 ⊗ var 3)) ((num (pos 10000) ⊗ var 0 ⊖ var 3) ⊗ var 1 ⊕ num (pos 10000) ⊗ var 2) refl

row_bound : (a s q : ℤ) → pos 10000 *ℤ a *ℤ q +ℤ s *ℤ q ≡ (pos 10000 *ℤ a +ℤ s) *ℤ q
row_bound a s q = ring (a ∷ s ∷ q ∷ []) (num (pos 10000) ⊗ var 0 ⊗ var 2 ⊕ var 1 ⊗ var 2) ((num (pos 10000) ⊗ var 0 ⊕ var 1) ⊗ var 2) refl

row_within : (m : Mapping) (leeways : List Leeway) (x0 : ℤ) (row : List Term) → pos 0 ≤ℤ m.frame.q → AreNearPlaces m leeways → AllByRecursion (IsTerm (length m.rule.points)) row → IsWithin (pos (extent leeways x0 row) *ℤ m.frame.q) (numerator m.frame m.mapped (constant m.rule.points x0 row) row)
row_within m leeways x0 row hq near ht = subst (λ (b : ℤ). IsWithin b (numerator m.frame m.mapped (constant m.rule.points x0 row) row)) (row_bound (pos (unsigned_abs x0)) (pos (stretch leeways row)) m.frame.q)
    (subst (λ (z : ℤ). IsWithin (pos 10000 *ℤ pos (unsigned_abs x0) *ℤ m.frame.q +ℤ pos (stretch leeways row) *ℤ m.frame.q) z) (row_split x0 m.frame.q (moving m.frame m.mapped row) (resting m.rule.points row))
    (within_add (pos 10000 *ℤ pos (unsigned_abs x0) *ℤ m.frame.q) (pos (stretch leeways row) *ℤ m.frame.q) (pos 10000 *ℤ x0 *ℤ m.frame.q) (pos 10000 *ℤ moving m.frame m.mapped row -ℤ m.frame.q *ℤ resting m.rule.points row)
    (within_mul (pos 10000 *ℤ pos (unsigned_abs x0)) m.frame.q (pos 10000 *ℤ x0) m.frame.q (within_mul (pos 10000) (pos (unsigned_abs x0)) (pos 10000) x0 (record { least = omega (arith, ints); greatest = omega (arith, ints) }) (abs_within x0)) (record { least = omega (arith, ints, hq); greatest = omega (arith, ints) }))
    (terms_within m leeways row near ht)))

-- u and v are at most n over 10^8 q
pub record AreWithin (n q u v : ℤ) : Type 0 where
  pub u_within : IsWithin (pos 100000000 *ℤ n *ℤ q) u
  pub v_within : IsWithin (pos 100000000 *ℤ n *ℤ q) v

scaled : (e n : ℕ) (q z : ℤ) → pos 0 ≤ℤ q → e ≤ 100000000 * n → IsWithin (pos e *ℤ q) z → IsWithin (pos 100000000 *ℤ pos n *ℤ q) z
scaled e n q z hq h hz = within_more (pos e *ℤ q) (pos 100000000 *ℤ pos n *ℤ q) z (omega (arith, ints, ring (pos e ∷ (pos 100000000 *ℤ pos n) ∷ q ∷ []) ((var 1 ⊖ var 0) ⊗ var 2) (var 1 ⊗ var 2 ⊖ var 0 ⊗ var 2) refl, nn_mul (pos 100000000 *ℤ pos n -ℤ pos e) q (omega (arith, ints, h)) hq)) hz

place_within : (m : Mapping) (leeways : List Leeway) (n : ℕ) (p : Place) → pos 0 ≤ℤ m.frame.q → AreNearPlaces m leeways → IsPlace (length m.rule.points) p → extent_of leeways p ≤ 100000000 * n →
    AreWithin (pos n) m.frame.q (numerator m.frame m.mapped (constants_of m.rule.points p).x p.row_x) (numerator m.frame m.mapped (constants_of m.rule.points p).y p.row_y)
place_within m leeways n p hq near hp he = record {
  u_within = scaled (extent leeways p.x p.row_x) n m.frame.q _ hq (omega (arith, he)) (row_within m leeways p.x p.row_x hq near hp.row_x.1);
  v_within = scaled (extent leeways p.y p.row_y) n m.frame.q _ hq (omega (arith, he)) (row_within m leeways p.y p.row_y hq near hp.row_y.1);
}

-- ---- placed
-- q (X + Y) is at most 2 h times the square of the length
far_square : (len h x y : ℤ) → IsExtent len h x y → (len *ℤ h *ℤ (x +ℤ y)) ≤ℤ (pos 2 *ℤ h *ℤ (x *ℤ x +ℤ y *ℤ y))
far_square len h x y k = omega (arith, ints, short, long)
  where
    short : (len *ℤ h *ℤ (x +ℤ y)) ≤ℤ (pos 2 *ℤ (h *ℤ (len *ℤ len)))
    short = omega (arith, ints, ring (len ∷ h ∷ (x +ℤ y) ∷ []) (var 0 ⊗ var 1 ⊗ (num (pos 2) ⊗ var 0 ⊖ var 2)) (num (pos 2) ⊗ (var 1 ⊗ (var 0 ⊗ var 0)) ⊖ var 0 ⊗ var 1 ⊗ var 2) refl, nn_mul (len *ℤ h) (pos 2 *ℤ len -ℤ (x +ℤ y)) (nn_mul len h (omega (arith, ints, k.long)) (omega (arith, ints, k.high))) (omega (arith, ints, extents_short len h x y k)))

    long : (pos 2 *ℤ (h *ℤ (len *ℤ len))) ≤ℤ (pos 2 *ℤ h *ℤ (x *ℤ x +ℤ y *ℤ y))
    long = omega (arith, ints, ring (len ∷ h ∷ (x *ℤ x +ℤ y *ℤ y) ∷ []) (num (pos 2) ⊗ var 1 ⊗ (var 2 ⊖ var 0 ⊗ var 0)) (num (pos 2) ⊗ var 1 ⊗ var 2 ⊖ num (pos 2) ⊗ (var 1 ⊗ (var 0 ⊗ var 0))) refl, nn_mul (pos 2 *ℤ h) (x *ℤ x +ℤ y *ℤ y -ℤ len *ℤ len) (omega (arith, ints, k.high)) (omega (arith, ints, k.least)))

-- the nearest whole number of what is at most m is
nearest_within : (t b m : ℤ) → pos 0 <ℤ b → IsWithin (m *ℤ b) t → IsWithin m (nearest (record { top = t; bottom = b }))
nearest_within t b m hb h = rounded_within t b (nearest (record { top = t; bottom = b })) m hb (of_floor (floor_is (pos 2 *ℤ t +ℤ b) (pos 2 *ℤ b) (omega (arith, ints, hb)))) (omega (arith, ints, h.least)) h.greatest
  where
    of_floor : {r : ℤ} → IsFloor (pos 2 *ℤ t +ℤ b) (pos 2 *ℤ b) r → IsRounded t b r
    of_floor {r} f = record { least = f.least; greatest = f.greatest }

-- a coordinate's numerator
pub spread : (f : LocalFrame) (n d b c u v : ℤ) → HasBounds f → pos 0 ≤ℤ n → pos 0 ≤ℤ d → IsWithin (d *ℤ n *ℤ f.q) u → IsWithin (d *ℤ n *ℤ f.q) v → IsWithin (size_of f.e.x) b → IsWithin (size_of f.e.y) c → IsWithin (pos 2 *ℤ n *ℤ f.h *ℤ (d *ℤ dot f.e f.e)) (u *ℤ b +ℤ v *ℤ c)
spread f n d b c u v k hn hd hu hv hb hc = within_more (d *ℤ n *ℤ f.q *ℤ size_of f.e.x +ℤ d *ℤ n *ℤ f.q *ℤ size_of f.e.y) (pos 2 *ℤ n *ℤ f.h *ℤ (d *ℤ dot f.e f.e)) (u *ℤ b +ℤ v *ℤ c)
    (enough f.q (size_of f.e.x) (size_of f.e.y) f.h (dot f.e f.e) far)
    (within_add (d *ℤ n *ℤ f.q *ℤ size_of f.e.x) (d *ℤ n *ℤ f.q *ℤ size_of f.e.y) (u *ℤ b) (v *ℤ c) (within_mul (d *ℤ n *ℤ f.q) (size_of f.e.x) u b hu hb) (within_mul (d *ℤ n *ℤ f.q) (size_of f.e.y) v c hv hc))
  where
    far : (f.q *ℤ (size_of f.e.x +ℤ size_of f.e.y)) ≤ℤ (pos 2 *ℤ f.h *ℤ dot f.e f.e)
    far = subst (λ (q : ℤ). (q *ℤ (size_of f.e.x +ℤ size_of f.e.y)) ≤ℤ (pos 2 *ℤ f.h *ℤ dot f.e f.e)) (sym k.unit) (subst (λ (z : ℤ). (f.len *ℤ f.h *ℤ (size_of f.e.x +ℤ size_of f.e.y)) ≤ℤ (pos 2 *ℤ f.h *ℤ z)) (squares_of f) (far_square f.len f.h (size_of f.e.x) (size_of f.e.y) (extent_of_frame f k)))

    enough : (q x y h s : ℤ) → (q *ℤ (x +ℤ y)) ≤ℤ (pos 2 *ℤ h *ℤ s) → (d *ℤ n *ℤ q *ℤ x +ℤ d *ℤ n *ℤ q *ℤ y) ≤ℤ (pos 2 *ℤ n *ℤ h *ℤ (d *ℤ s))
    enough q x y h s i = omega (arith, ints, nn_mul (d *ℤ n) (pos 2 *ℤ h *ℤ s -ℤ q *ℤ (x +ℤ y)) (nn_mul d n hd hn) (omega (arith, ints, i)), ring (d ∷ n ∷ q ∷ x ∷ y ∷ h ∷ s ∷ []) (var 0 ⊗ var 1 ⊗ (num (pos 2) ⊗ var 5 ⊗ var 6 ⊖ var 2 ⊗ (var 3 ⊕ var 4))) (num (pos 2) ⊗ var 1 ⊗ var 5 ⊗ (var 0 ⊗ var 6) ⊖ (var 0 ⊗ var 1 ⊗ var 2 ⊗ var 3 ⊕ var 0 ⊗ var 1 ⊗ var 2 ⊗ var 4)) refl)

-- minus a product
less : (u b v c : ℤ) → u *ℤ b +ℤ v *ℤ (pos 0 -ℤ c) ≡ u *ℤ b -ℤ v *ℤ c
less u b v c = ring (u ∷ b ∷ v ∷ c ∷ []) (var 0 ⊗ var 1 ⊕ var 2 ⊗ (num (pos 0) ⊖ var 3)) (var 0 ⊗ var 1 ⊖ var 2 ⊗ var 3) refl

turned_within : (m z : ℤ) → IsWithin m z → IsWithin m (pos 0 -ℤ z)
turned_within m z h = record { least = omega (arith, ints, h.greatest); greatest = omega (arith, ints, h.least) }

swapped : (u b v c : ℤ) → v *ℤ c +ℤ u *ℤ b ≡ u *ℤ b +ℤ v *ℤ c
swapped u b v c = omega (arith, ints)

offset_reach : (n h p z : ℤ) → IsWithin (pos 2 *ℤ n *ℤ h) z → IsWithin (pos 2 *ℤ n *ℤ h +ℤ pos 1) (p +ℤ z -ℤ p)
offset_reach n h p z k = record { least = omega (arith, ints, k.least); greatest = omega (arith, ints, k.greatest) }

-- a local place whose numerators over d q are at most d n q
pub put_in_reach : (f : LocalFrame) (n : ℕ) (u v d : ℤ) → IsFrame f → pos 0 <ℤ d → IsWithin (d *ℤ pos n *ℤ f.q) u → IsWithin (d *ℤ pos n *ℤ f.q) v → IsInReach f n (put_at f u v d)
put_in_reach f n u v d k hd hu hv = let b : HasBounds f = frame_bounds f k in record {
  columns = offset_reach (pos n) f.h f.p1.x (nearest (record { top = u *ℤ f.e.x -ℤ v *ℤ f.e.y; bottom = d *ℤ dot f.e f.e })) (nearest_within (u *ℤ f.e.x -ℤ v *ℤ f.e.y) (d *ℤ dot f.e f.e) (pos 2 *ℤ pos n *ℤ f.h) (pos_mul d (dot f.e f.e) hd (square_positive f b))
      (subst (λ (z : ℤ). IsWithin (pos 2 *ℤ pos n *ℤ f.h *ℤ (d *ℤ dot f.e f.e)) z) (less u f.e.x v f.e.y) (spread f (pos n) d f.e.x (pos 0 -ℤ f.e.y) u v b (omega (arith, ints)) (omega (arith, ints, hd)) hu hv (size_within f.e.x) (turned_within (size_of f.e.y) f.e.y (size_within f.e.y)))));
  rows = offset_reach (pos n) f.h f.p1.y (nearest (record { top = u *ℤ f.e.y +ℤ v *ℤ f.e.x; bottom = d *ℤ dot f.e f.e })) (nearest_within (u *ℤ f.e.y +ℤ v *ℤ f.e.x) (d *ℤ dot f.e f.e) (pos 2 *ℤ pos n *ℤ f.h) (pos_mul d (dot f.e f.e) hd (square_positive f b))
      (subst (λ (z : ℤ). IsWithin (pos 2 *ℤ pos n *ℤ f.h *ℤ (d *ℤ dot f.e f.e)) z) (swapped u f.e.y v f.e.x) (spread f (pos n) d f.e.x f.e.y v u b (omega (arith, ints)) (omega (arith, ints, hd)) hv hu (size_within f.e.x) (size_within f.e.y))));
}

-- ---- what a rule uses
computed : (m : Mapping) (p : Place) → IsComputed m p (numerator m.frame m.mapped (constants_of m.rule.points p).x p.row_x) (numerator m.frame m.mapped (constants_of m.rule.points p).y p.row_y)
computed m p = record { u_is = refl; v_is = refl }

unit_nn : (m : Mapping) → IsMapping m → pos 0 ≤ℤ m.frame.q
unit_nn m h = omega (arith, ints, (frame_bounds m.frame h.frame).unit_least)

mixed_within : (class n : ℕ) (q a l : ℤ) → 1 ≤ class → IsWithin (pos 100000000 *ℤ pos n *ℤ q) a → IsWithin (pos 100000000 *ℤ pos n *ℤ q) l → IsWithin (pos 100000000 *ℤ pos (2 * class - 1) *ℤ pos n *ℤ q) (a +ℤ (pos 2 *ℤ pos class -ℤ pos 2) *ℤ l)
mixed_within class n q a l hc ha hl = subst (λ (b : ℤ). IsWithin b (a +ℤ (pos 2 *ℤ pos class -ℤ pos 2) *ℤ l)) (added (pos 2 *ℤ pos class -ℤ pos 2) (pos (2 * class - 1)) (pos n) (omega (arith, ints, hc)))
    (within_add (pos 100000000 *ℤ pos n *ℤ q) ((pos 2 *ℤ pos class -ℤ pos 2) *ℤ (pos 100000000 *ℤ pos n *ℤ q)) a ((pos 2 *ℤ pos class -ℤ pos 2) *ℤ l) ha (within_mul (pos 2 *ℤ pos class -ℤ pos 2) (pos 100000000 *ℤ pos n *ℤ q) (pos 2 *ℤ pos class -ℤ pos 2) l (record { least = omega (arith, ints, hc); greatest = omega (arith, ints) }) hl))
  where
    added : (w k n : ℤ) → k ≡ w +ℤ pos 1 → pos 100000000 *ℤ n *ℤ q +ℤ w *ℤ (pos 100000000 *ℤ n *ℤ q) ≡ pos 100000000 *ℤ k *ℤ n *ℤ q
    added w k n e = ring (w ∷ n ∷ q ∷ []) (num (pos 100000000) ⊗ var 1 ⊗ var 2 ⊕ var 0 ⊗ (num (pos 100000000) ⊗ var 1 ⊗ var 2)) (num (pos 100000000) ⊗ (var 0 ⊕ num (pos 1)) ⊗ var 1 ⊗ var 2) refl ∙ ap (λ (z : ℤ). pos 100000000 *ℤ z *ℤ n *ℤ q) (sym e)

-- a rule on a line whose mapped points are near their places, and a number that covers it from any other on
pub record IsCoveredOn (m : Mapping) (leeways : List Leeway) (from n : ℕ) : Type 0 where
  pub maps : IsMapping m
  pub near : AreNearPlaces m leeways
  pub covers : CoversFrom from leeways m.rule n

module _ (m : Mapping) (leeways : List Leeway) (from n : ℕ) (h : IsCoveredOn m leeways from n) where
  listed_within : (k : ℕ) (places : List Place) → AllByRecursion (IsPlace (length m.rule.points)) places → AreCovered leeways n places → 1 ≤ k → k ≤ length places →
      AreWithin (pos n) m.frame.q (numerator m.frame m.mapped (constants_of m.rule.points (place_at places k)).x (place_at places k).row_x) (numerator m.frame m.mapped (constants_of m.rule.points (place_at places k)).y (place_at places k).row_y)
  listed_within k places hp hc h1 hk = place_within m leeways n (place_at places k) (unit_nn m h.maps) h.near (each_at (IsPlace (length m.rule.points)) places (k - 1) _ hp (omega (arith, h1, hk))) (each_at (λ p. extent_of leeways p ≤ 100000000 * n) places (k - 1) _ hc (omega (arith, h1, hk)))

  pub new_point_near : (k : ℕ) → 1 ≤ k → k ≤ length m.rule.new_points → IsInReach m.frame n (new_point m k)
  new_point_near k h1 hk = let p : Place = place_at m.rule.new_points k in let w = listed_within k m.rule.new_points h.maps.rule.new_points.1 h.covers.new_points h1 hk in
      subst (λ (q : Point). IsInReach m.frame n q) (new_point_is m k p _ _ h.maps.frame refl (computed m p)) (put_in_reach m.frame n _ _ (pos 100000000) h.maps.frame (omega (arith, ints)) w.u_within w.v_within)

  pub corner_near : (k class : ℕ) → ¬ HasBadZone m.rule → 1 ≤ k → k ≤ length m.rule.area → 1 ≤ class → IsInReach m.frame n (corner m k class)
  corner_near k class good h1 hk hl = let p : Place = place_at m.rule.area k in let w = listed_within k m.rule.area h.maps.rule.area.1 h.covers.area h1 hk in elim (eqb_tells (length m.rule.limit) 0) [
    | inl e ↦ subst (λ (q : Point). IsInReach m.frame n q) (corner_alone m k class p _ _ h.maps.frame hl e.1 refl (computed m p)) (put_in_reach m.frame n _ _ (pos 100000000) h.maps.frame (omega (arith, ints)) w.u_within w.v_within)
    | inr e ↦ both (λ z. e.1 z) w
  ]
    where
      both : ¬ (length m.rule.limit ≡ 0) → AreWithin (pos n) m.frame.q (numerator m.frame m.mapped (constants_of m.rule.points (place_at m.rule.area k)).x (place_at m.rule.area k).row_x) (numerator m.frame m.mapped (constants_of m.rule.points (place_at m.rule.area k)).y (place_at m.rule.area k).row_y) → IsInReach m.frame n (corner m k class)
      both some w = let l : Place = place_at m.rule.limit k in let x = listed_within k m.rule.limit h.maps.rule.limit.1 h.covers.limit h1 (omega (arith, hk, as_many m.rule good some)) in
          subst (λ (q : Point). IsInReach m.frame n q) (corner_is m k class (place_at m.rule.area k) l h.maps.frame hl some refl refl (computed m (place_at m.rule.area k)) (computed m l) (record { u_is = refl; v_is = refl }))
          (put_in_reach m.frame n _ _ (pos 100000000 *ℤ pos (2 * class - 1)) h.maps.frame (omega (arith, ints, hl)) (mixed_within class n m.frame.q _ _ hl w.u_within x.u_within) (mixed_within class n m.frame.q _ _ hl w.v_within x.v_within))

-- so where the mapped points are in range
covered_in_range : (m : Mapping) (n : ℕ) → IsMapping m → Covers m.rule n → IsCoveredOn m (map in_range m.rule.points) 13 n
covered_in_range m n h hc = record { maps = h; near = all_in_range m h; covers = hc }

pub new_point_in_reach : (m : Mapping) (n k : ℕ) → IsMapping m → Covers m.rule n → 1 ≤ k → k ≤ length m.rule.new_points → IsInReach m.frame n (new_point m k)
new_point_in_reach m n k h hc = new_point_near m (map in_range m.rule.points) 13 n (covered_in_range m n h hc) k

pub corner_in_reach : (m : Mapping) (n k class : ℕ) → IsMapping m → Covers m.rule n → ¬ HasBadZone m.rule → 1 ≤ k → k ≤ length m.rule.area → 1 ≤ class → IsInReach m.frame n (corner m k class)
corner_in_reach m n k class h hc = corner_near m (map in_range m.rule.points) 13 n (covered_in_range m n h hc) k class

pub new_point_by : (m : Mapping) (leeways : List Leeway) (n k : ℕ) → IsMapping m → AreNearPlaces m leeways → CoversBy leeways m.rule n → 1 ≤ k → k ≤ length m.rule.new_points → IsInReach m.frame n (new_point m k)
new_point_by m leeways n k h near hc = new_point_near m leeways 3 n (record { maps = h; near = near; covers = hc }) k

pub corner_by : (m : Mapping) (leeways : List Leeway) (n k class : ℕ) → IsMapping m → AreNearPlaces m leeways → CoversBy leeways m.rule n → ¬ HasBadZone m.rule → 1 ≤ k → k ≤ length m.rule.area → 1 ≤ class → IsInReach m.frame n (corner m k class)
corner_by m leeways n k class h near hc = corner_near m leeways 3 n (record { maps = h; near = near; covers = hc }) k class

-- a mapped point lies within five heights of the line's start, and a step
side_short : (len x y : ℤ) → pos 0 ≤ℤ x → pos 0 ≤ℤ len → pos 0 ≤ℤ (y *ℤ y) → (x *ℤ x +ℤ y *ℤ y) <ℤ ((len +ℤ pos 1) *ℤ (len +ℤ pos 1)) → x ≤ℤ len
side_short len x y hx hl hy h = root_at_most (x *ℤ x) x len hx hl (omega (arith, ints)) (omega (arith, ints, h, hy))

range_reach : (n h x z : ℤ) → IsWithin (pos 8 *ℤ h +ℤ x +ℤ pos 1) (pos 2 *ℤ z) → x ≤ℤ (pos 2 *ℤ h) → pos 3 ≤ℤ n → pos 1 ≤ℤ h → IsWithin (pos 2 *ℤ n *ℤ h +ℤ pos 1) z
range_reach n h x z k i hn hh = record { least = omega (arith, ints, k.least, i, wide, hh, twice); greatest = omega (arith, ints, k.greatest, i, wide, hh, twice) }
  where
    wide : pos 0 ≤ℤ ((n -ℤ pos 3) *ℤ h)
    wide = nn_mul (n -ℤ pos 3) h (omega (arith, ints, hn)) (omega (arith, ints, hh))

    twice : pos 2 *ℤ n *ℤ h ≡ pos 2 *ℤ ((n -ℤ pos 3) *ℤ h) +ℤ pos 6 *ℤ h
    twice = ring (n ∷ h ∷ []) (num (pos 2) ⊗ var 0 ⊗ var 1) (num (pos 2) ⊗ ((var 0 ⊖ num (pos 3)) ⊗ var 1) ⊕ num (pos 6) ⊗ var 1) refl

pub mapped_in_reach : (f : LocalFrame) (n : ℕ) (p : Point) → IsFrame f → 3 ≤ n → IsInRange f p → IsInReach f n p
mapped_in_reach f n p k hn r = let b : HasBounds f = frame_bounds f k in let t : IsExtent f.len f.h (size_of f.e.x) (size_of f.e.y) = extent_of_frame f b in record {
  columns = range_reach (pos n) f.h (size_of f.e.x) (p.x -ℤ f.p1.x) (offset_within f.h (size_of f.e.x) f.p1.x f.middle.x f.e.x p.x (size_within f.e.x) b.middle_x r.columns) (omega (arith, ints, t.half_length, side_short f.len (size_of f.e.x) (size_of f.e.y) t.x_positive (omega (arith, ints, t.long)) (nn_mul (size_of f.e.y) (size_of f.e.y) t.y_positive t.y_positive) t.greatest)) (omega (arith, ints, hn)) t.high;
  rows = range_reach (pos n) f.h (size_of f.e.y) (p.y -ℤ f.p1.y) (offset_within f.h (size_of f.e.y) f.p1.y f.middle.y f.e.y p.y (size_within f.e.y) b.middle_y r.rows) (omega (arith, ints, t.half_length, side_short f.len (size_of f.e.y) (size_of f.e.x) t.y_positive (omega (arith, ints, t.long)) (nn_mul (size_of f.e.x) (size_of f.e.x) t.x_positive t.x_positive) (omega (arith, ints, t.greatest)))) (omega (arith, ints, hn)) t.high;
}
