-- The leeways of a class. With T = (5 + 3 class) / 10, f3 not negative and D = 4 f1 f3 - f2 f2, 4 f3 measure = D dx dx + (f2 dx + 2 f3 dy)^2; so where the
-- measure is at most T, D dx dx is at most 4 f3 T, and D dy dy at most 4 f1 T by the other coordinate. What the code computes is greater than each such |dx|. A local place is
-- rounded by half a unit at most, so it is no farther from its place in the rule than that.
use Rattle.std.proofs.Common.{◌≡◌, ℕ, zero, suc, ◌+◌, ◌*◌, ◌-◌, ◌/◌, ◌<◌, ◌≤◌, ◌⊎◌, inl, inr, List, [], ◌∷◌, ◌++◌, length, map, min, slice_index_or, refl, sym, ap, ◌∙◌, subst, arith, ℤ, pos, negsuc, ◌+ℤ◌, ◌-ℤ◌, ◌*ℤ◌, ◌<ℤ◌, ◌≤ℤ◌}
use mir.Val.{SFits}
use mir.Syntax.{w128}
use Rattle.std.proofs.lemmas.Int.{ints, to_z-of_z}
use Rattle.std.proofs.Math.Nat.{div-lt_iff_lt-mul}
use Rattle.std.specs.Int.RustNames.{unsigned_abs}
use Rattle.std.specs.List.{AllByRecursion}
use Rattle.grid_geom.specs.Bounds.{IsWithin}
use Rattle.grid_geom.specs.declared.Point.{Point}
use Rattle.grid_geom.proofs.Ring.{var, num, ◌⊕◌, ◌⊖◌, ◌⊗◌, ring}
use Rattle.grid_geom.proofs.Signs.{nn_mul, np_mul, either}
use Rattle.rule_reader.specs.declared.rule.MapPoint.{MapPoint}
use Rattle.rule_reader.specs.Normal.{IsMapPoint}
use Rattle.rule_maps.specs.declared.reach.Leeway.{Leeway}
use Rattle.rule_maps.specs.Fractions.{IsNearest, nearest}
use Rattle.rule_maps.specs.Frame.{LocalFrame, IsFrame, IsInRange, way, dot, cross}
use Rattle.rule_maps.specs.Reach.{in_range, IsNearPlace, IsNoGreater, AreNoGreater, IsLeeway}
use Rattle.rule_maps.proofs.Frames.{cast128, frame_bounds}
use Rattle.rule_maps.proofs.InReach.{near_in_range}
use Rattle.rule_maps.proofs.Rounding.{nearest_near}
use Rattle.rule_match.specs.Candidate.{IsTolerated, IsPointTolerated, AreTolerated, local4, measure}
use Rattle.rule_match.specs.Leeways.{IsEllipse, IsLeewayAt, AreLeewaysAt}
use Rattle.rule_match.specs.declared.leeways.Ellipse.{Ellipse}

-- ---- an ellipse
never_negative : (z : ℤ) → pos 0 ≤ℤ (z *ℤ z)
never_negative z = elim (either (pos 0) z) [ inl i ↦ nn_mul z z i i | inr i ↦ np_mul z z (omega (arith, ints, i)) (omega (arith, ints, i)) ]

in_ellipse : (f1 f2 f3 t x y : ℤ) → pos 0 ≤ℤ f3 → (f1 *ℤ x *ℤ x +ℤ f2 *ℤ x *ℤ y +ℤ f3 *ℤ y *ℤ y) ≤ℤ t → (x *ℤ x *ℤ (pos 4 *ℤ (f1 *ℤ f3) -ℤ f2 *ℤ f2)) ≤ℤ (pos 4 *ℤ f3 *ℤ t)
in_ellipse f1 f2 f3 t x y h m = omega (arith, ints, left, never_negative (f2 *ℤ x +ℤ pos 2 *ℤ f3 *ℤ y), split)
  where
    left : pos 0 ≤ℤ (pos 4 *ℤ f3 *ℤ (t -ℤ (f1 *ℤ x *ℤ x +ℤ f2 *ℤ x *ℤ y +ℤ f3 *ℤ y *ℤ y)))
    left = nn_mul (pos 4 *ℤ f3) (t -ℤ (f1 *ℤ x *ℤ x +ℤ f2 *ℤ x *ℤ y +ℤ f3 *ℤ y *ℤ y)) (omega (arith, ints, h)) (omega (arith, ints, m))

    split : pos 4 *ℤ f3 *ℤ (t -ℤ (f1 *ℤ x *ℤ x +ℤ f2 *ℤ x *ℤ y +ℤ f3 *ℤ y *ℤ y))
        ≡ pos 4 *ℤ f3 *ℤ t -ℤ x *ℤ x *ℤ (pos 4 *ℤ (f1 *ℤ f3) -ℤ f2 *ℤ f2) -ℤ (f2 *ℤ x +ℤ pos 2 *ℤ f3 *ℤ y) *ℤ (f2 *ℤ x +ℤ pos 2 *ℤ f3 *ℤ y)
    split = ring (f1 ∷ f2 ∷ f3 ∷ t ∷ x ∷ y ∷ [])
        (num (pos 4) ⊗ var 2 ⊗ (var 3 ⊖ (var 0 ⊗ var 4 ⊗ var 4 ⊕ var 1 ⊗ var 4 ⊗ var 5 ⊕ var 2 ⊗ var 5 ⊗ var 5)))
        (num (pos 4) ⊗ var 2 ⊗ var 3 ⊖ var 4 ⊗ var 4 ⊗ (num (pos 4) ⊗ (var 0 ⊗ var 2) ⊖ var 1 ⊗ var 1) ⊖ (var 1 ⊗ var 4 ⊕ num (pos 2) ⊗ var 2 ⊗ var 5) ⊗ (var 1 ⊗ var 4 ⊕ num (pos 2) ⊗ var 2 ⊗ var 5)) refl

-- the same with the coordinates exchanged
turned_measure : (f1 f2 f3 x y : ℤ) → f3 *ℤ y *ℤ y +ℤ f2 *ℤ y *ℤ x +ℤ f1 *ℤ x *ℤ x ≡ f1 *ℤ x *ℤ x +ℤ f2 *ℤ x *ℤ y +ℤ f3 *ℤ y *ℤ y
turned_measure f1 f2 f3 x y = ring (f1 ∷ f2 ∷ f3 ∷ x ∷ y ∷ []) (var 2 ⊗ var 4 ⊗ var 4 ⊕ var 1 ⊗ var 4 ⊗ var 3 ⊕ var 0 ⊗ var 3 ⊗ var 3) (var 0 ⊗ var 3 ⊗ var 3 ⊕ var 1 ⊗ var 3 ⊗ var 4 ⊕ var 2 ⊗ var 4 ⊗ var 4) refl

turned_determinant : (f1 f2 f3 : ℤ) → pos 4 *ℤ (f3 *ℤ f1) -ℤ f2 *ℤ f2 ≡ pos 4 *ℤ (f1 *ℤ f3) -ℤ f2 *ℤ f2
turned_determinant f1 f2 f3 = ring (f1 ∷ f2 ∷ f3 ∷ []) (num (pos 4) ⊗ (var 2 ⊗ var 0) ⊖ var 1 ⊗ var 1) (num (pos 4) ⊗ (var 0 ⊗ var 2) ⊖ var 1 ⊗ var 1) refl

-- ---- what the code computes
-- no d whose square times the determinant is at most the bound is as great as a number whose square is above the quotient
pub below_root : (d above determinant bound : ℕ) → 1 ≤ determinant → bound / determinant < above * above → d * d * determinant ≤ bound → d < above
below_root d above determinant bound p s h = by (compared d above)
  where
    compared : (a b : ℕ) → (a < b) ⊎ (b ≤ a)
    compared a b = grind arith

    squares : (a b : ℕ) → b ≤ a → b * b ≤ a * a
    squares a b l = omega (arith, ints, nn_mul (pos a -ℤ pos b) (pos a +ℤ pos b) (omega (arith, ints, l)) (omega (arith, ints)), ring (pos a ∷ pos b ∷ []) ((var 0 ⊖ var 1) ⊗ (var 0 ⊕ var 1)) (var 0 ⊗ var 0 ⊖ var 1 ⊗ var 1) refl)

    over : (a b c : ℕ) → a < b → b ≤ c → a < c
    over a b c h k = omega arith

    clash : (a b : ℕ) → a ≤ b → b < a → ⊥
    clash a b h k = omega arith

    by : (d < above) ⊎ (above ≤ d) → d < above
    by (inl l) = l
    by (inr l) = absurd (clash (d * d * determinant) bound h ((div-lt_iff_lt-mul p).0 (over (bound / determinant) (above * above) (d * d) s (squares d above l))))

-- and it is less than the lesser of that number and another, or the other is the lesser
pub lesser : (above ranged least d : ℕ) → least ≡ min above ranged → d < above → (d < least) ⊎ (least ≡ ranged)
lesser above ranged least d e h = by (compared ranged above)
  where
    compared : (a b : ℕ) → (a < b) ⊎ (b ≤ a)
    compared a b = grind arith

    by : (ranged < above) ⊎ (above ≤ ranged) → (d < least) ⊎ (least ≡ ranged)
    by (inl l) = inr (omega (arith, e, l))
    by (inr l) = inl (omega (arith, e, l, h))

-- the determinant passes no bound of its numbers
within_of : (z : ℤ) (m : ℕ) → unsigned_abs z ≤ m → IsWithin (pos m) z
within_of (pos n) m h = record { least = omega (arith, ints, h); greatest = omega (arith, ints, h) }
within_of (negsuc n) m h = record { least = omega (arith, ints, h); greatest = omega (arith, ints, h) }

pub four_less : (p q : ℤ) → unsigned_abs p ≤ 4611686018427387904 → unsigned_abs q ≤ 4611686018427387904 → cast128 (cast128 (pos 4 *ℤ cast128 p) -ℤ cast128 q) ≡ pos 4 *ℤ p -ℤ q
four_less p q hp hq = let a : IsWithin (pos 4611686018427387904) p = within_of p 4611686018427387904 hp in let b : IsWithin (pos 4611686018427387904) q = within_of q 4611686018427387904 hq in
    let f : SFits w128 p = omega (arith, ints, a.least, a.greatest) in let g : SFits w128 q = omega (arith, ints, b.least, b.greatest) in
    let k : SFits w128 (pos 4 *ℤ p) = omega (arith, ints, a.least, a.greatest) in let l : SFits w128 (pos 4 *ℤ p -ℤ q) = omega (arith, ints, a.least, a.greatest, b.least, b.greatest) in simp to_z-of_z

-- ---- rounding
-- a rounded place that is less than w away is at most w away before it is rounded
before_rounding : (z q x : ℤ) (w : ℕ) → pos 0 <ℤ q → unsigned_abs (nearest (record { top = pos 10000 *ℤ z; bottom = q }) -ℤ x) < w → IsWithin (pos w *ℤ q) (pos 10000 *ℤ z -ℤ x *ℤ q)
before_rounding z q x w hq h = by (nearest (record { top = pos 10000 *ℤ z; bottom = q })) (nearest_near (record { top = pos 10000 *ℤ z; bottom = q }) (record { positive = hq })) h
  where
    abrupt : (z : ℤ) (w : ℕ) → unsigned_abs z < w → IsWithin (pos w -ℤ pos 1) z
    abrupt (pos n) w h = record { least = omega (arith, ints, h); greatest = omega (arith, ints, h) }
    abrupt (negsuc n) w h = record { least = omega (arith, ints, h); greatest = omega (arith, ints, h) }

    by : (n : ℤ) → IsNearest (record { top = pos 10000 *ℤ z; bottom = q }) n → unsigned_abs (n -ℤ x) < w → IsWithin (pos w *ℤ q) (pos 10000 *ℤ z -ℤ x *ℤ q)
    by n r h = let a = abrupt (n -ℤ x) w h in record {
      least = omega (arith, ints, r.not_more, twice, hq, nn_mul ((n -ℤ x) +ℤ (pos w -ℤ pos 1)) q (omega (arith, ints, a.least)) (omega (arith, ints, hq)), ring (n ∷ x ∷ pos w ∷ q ∷ []) ((var 0 ⊖ var 1 ⊕ (var 2 ⊖ num (pos 1))) ⊗ var 3) (var 0 ⊗ var 3 ⊖ var 1 ⊗ var 3 ⊕ var 2 ⊗ var 3 ⊖ var 3) refl);
      greatest = omega (arith, ints, r.not_less, twice, hq, nn_mul ((pos w -ℤ pos 1) -ℤ (n -ℤ x)) q (omega (arith, ints, a.greatest)) (omega (arith, ints, hq)), ring (n ∷ x ∷ pos w ∷ q ∷ []) (((var 2 ⊖ num (pos 1)) ⊖ (var 0 ⊖ var 1)) ⊗ var 3) (var 2 ⊗ var 3 ⊖ var 3 ⊖ var 0 ⊗ var 3 ⊕ var 1 ⊗ var 3) refl);
    }
      where
        twice : pos 2 *ℤ n *ℤ q ≡ pos 2 *ℤ (n *ℤ q)
        twice = ring (n ∷ q ∷ []) (num (pos 2) ⊗ var 0 ⊗ var 1) (num (pos 2) ⊗ (var 0 ⊗ var 1)) refl

-- ---- a leeway
-- what is said of a number that the code computes: no d is as great, or it is that of points in range
abbrev pub IsBeyond : ℕ → ℕ → ℕ → ℕ → ℕ → Type 0
IsBeyond weight class determinant ranged w = (d : ℕ) → d * d * determinant ≤ 4 * weight * ((5 + 3 * class) * 100000000000) → (d < w) ⊎ (w ≡ ranged)

beyond_at : (weight class determinant ranged w : ℕ) (z : ℤ) → IsBeyond weight class determinant ranged w → (z *ℤ z *ℤ pos determinant) ≤ℤ (pos 4 *ℤ pos weight *ℤ pos ((5 + 3 * class) * 100000000000)) → (unsigned_abs z < w) ⊎ (w ≡ ranged)
beyond_at weight class determinant ranged w (pos n) h k = h n (natural _ _ k)
  where
    natural : (a b : ℕ) → pos a ≤ℤ pos b → a ≤ b
    natural a b l = omega (arith, ints)
beyond_at weight class determinant ranged w (negsuc n) h k = h (suc n) (natural _ _ k)
  where
    natural : (a b : ℕ) → pos a ≤ℤ pos b → a ≤ b
    natural a b l = omega (arith, ints)

module _ (class : ℕ) (p : MapPoint) (e : Ellipse) (is : IsEllipse p.tol e) where
  abbrev bound : ℤ
  bound = pos ((5 + 3 * class) * 100000000000)

  along_tolerated : (x y : ℤ) → IsTolerated class p.tol x y → (x *ℤ x *ℤ pos e.determinant) ≤ℤ (pos 4 *ℤ pos e.f3 *ℤ bound)
  along_tolerated x y h = subst (λ (f : ℤ). (x *ℤ x *ℤ pos e.determinant) ≤ℤ (pos 4 *ℤ f *ℤ bound)) (sym is.f3) (subst (λ (d : ℤ). (x *ℤ x *ℤ d) ≤ℤ (pos 4 *ℤ p.tol.f3 *ℤ bound)) (sym is.determinant)
      (in_ellipse p.tol.f1 p.tol.f2 p.tol.f3 bound x y (subst (λ (f : ℤ). pos 0 ≤ℤ f) is.f3 (omega (arith, ints))) h))

  left_tolerated : (x y : ℤ) → IsTolerated class p.tol x y → (y *ℤ y *ℤ pos e.determinant) ≤ℤ (pos 4 *ℤ pos e.f1 *ℤ bound)
  left_tolerated x y h = subst (λ (f : ℤ). (y *ℤ y *ℤ pos e.determinant) ≤ℤ (pos 4 *ℤ f *ℤ bound)) (sym is.f1) (subst (λ (d : ℤ). (y *ℤ y *ℤ d) ≤ℤ (pos 4 *ℤ p.tol.f1 *ℤ bound)) (turned_determinant p.tol.f1 p.tol.f2 p.tol.f3 ∙ sym is.determinant)
      (in_ellipse p.tol.f3 p.tol.f2 p.tol.f1 bound y x (subst (λ (f : ℤ). pos 0 ≤ℤ f) is.f1 (omega (arith, ints))) (subst (λ (m : ℤ). m ≤ℤ bound) (sym (turned_measure p.tol.f1 p.tol.f2 p.tol.f3 x y)) h)))

  pub leeway_of_ellipse : (w : Leeway) → IsNoGreater w (in_range p) → IsBeyond e.f3 class e.determinant (in_range p).along w.along → IsBeyond e.f1 class e.determinant (in_range p).left w.left → IsLeewayAt class p w
  leeway_of_ellipse w less along left = record { near = near; no_greater = less }
    where
      near : (f : LocalFrame) (at : Point) → IsFrame f → IsInRange f at → IsPointTolerated class (local4 f at) p → IsNearPlace f p w at
      near f at k r t = record {
        along = by_along (beyond_at e.f3 class e.determinant (in_range p).along w.along ((local4 f at).x -ℤ p.x) along (along_tolerated ((local4 f at).x -ℤ p.x) ((local4 f at).y -ℤ p.y) t));
        left = by_left (beyond_at e.f1 class e.determinant (in_range p).left w.left ((local4 f at).y -ℤ p.y) left (left_tolerated ((local4 f at).x -ℤ p.x) ((local4 f at).y -ℤ p.y) t));
      }
        where
          positive : pos 0 <ℤ f.q
          positive = omega (arith, ints, (frame_bounds f k).unit_least)

          by_along : (unsigned_abs ((local4 f at).x -ℤ p.x) < w.along) ⊎ (w.along ≡ (in_range p).along) → IsWithin (pos w.along *ℤ f.q) (pos 10000 *ℤ dot f.e (way f.p1 at) -ℤ p.x *ℤ f.q)
          by_along (inl l) = before_rounding (dot f.e (way f.p1 at)) f.q p.x w.along positive l
          by_along (inr g) = subst (λ (n : ℕ). IsWithin (pos n *ℤ f.q) (pos 10000 *ℤ dot f.e (way f.p1 at) -ℤ p.x *ℤ f.q)) (sym g) (near_in_range f p at k r).along

          by_left : (unsigned_abs ((local4 f at).y -ℤ p.y) < w.left) ⊎ (w.left ≡ (in_range p).left) → IsWithin (pos w.left *ℤ f.q) (pos 10000 *ℤ cross f.e (way f.p1 at) -ℤ p.y *ℤ f.q)
          by_left (inl l) = before_rounding (cross f.e (way f.p1 at)) f.q p.y w.left positive l
          by_left (inr g) = subst (λ (n : ℕ). IsWithin (pos n *ℤ f.q) (pos 10000 *ℤ cross f.e (way f.p1 at) -ℤ p.y *ℤ f.q)) (sym g) (near_in_range f p at k r).left

-- without an ellipse
pub leeway_in_range_at : (class : ℕ) (p : MapPoint) → IsLeewayAt class p (in_range p)
leeway_in_range_at class p = record { near = λ f at k r t. near_in_range f p at k r; no_greater = record { along = omega arith; left = omega arith } }

-- ---- the leeways of a rule's points
pub one_more_leeway : (class : ℕ) (points : List MapPoint) (leeways : List Leeway) (p : MapPoint) (w : Leeway) → AreLeewaysAt class points leeways → IsLeewayAt class p w → AreLeewaysAt class (points ++ p ∷ []) (leeways ++ w ∷ [])
one_more_leeway class [] [] p w h l = (l, tt)
one_more_leeway class [] (v ∷ vs) p w h l = absurd h
one_more_leeway class (o ∷ points) [] p w h l = absurd h
one_more_leeway class (o ∷ points) (v ∷ vs) p w h l = (h.0, one_more_leeway class points vs p w h.1 l)

pub same_count : (class : ℕ) (points : List MapPoint) (leeways : List Leeway) → AreLeewaysAt class points leeways → length leeways ≡ length points
same_count class [] [] h = refl
same_count class [] (v ∷ vs) h = absurd h
same_count class (o ∷ points) [] h = absurd h
same_count class (o ∷ points) (v ∷ vs) h = ap suc (same_count class points vs h.1)

pub all_leeways : (class : ℕ) (points : List MapPoint) (leeways : List Leeway) → AllByRecursion IsMapPoint points → AreLeewaysAt class points leeways → AllByRecursion IsLeeway leeways
all_leeways class [] [] i h = tt
all_leeways class [] (v ∷ vs) i h = absurd h
all_leeways class (o ∷ points) [] i h = absurd h
all_leeways class (o ∷ points) (v ∷ vs) i h = (record { along = omega (arith, i.0.x, h.0.no_greater.along); left = omega (arith, i.0.y, h.0.no_greater.left) }, all_leeways class points vs i.1 h.1)

pub no_greater_than_range : (class : ℕ) (points : List MapPoint) (leeways : List Leeway) → AreLeewaysAt class points leeways → AreNoGreater leeways (map in_range points)
no_greater_than_range class points leeways h k = at points leeways (k - 1) h
  where
    at : (points : List MapPoint) (leeways : List Leeway) (i : ℕ) → AreLeewaysAt class points leeways
        → IsNoGreater (slice_index_or leeways i (record { along = 0; left = 0 })) (slice_index_or (map in_range points) i (record { along = 0; left = 0 }))
    at [] [] i h = record { along = omega arith; left = omega arith }
    at [] (v ∷ vs) i h = absurd h
    at (o ∷ points) [] i h = absurd h
    at (o ∷ points) (v ∷ vs) zero h = h.0.no_greater
    at (o ∷ points) (v ∷ vs) (suc i) h = at points vs i h.1

-- a tolerance at a class holds at each class above
tolerated_above : (class above : ℕ) (m : ℤ) → class ≤ above → m ≤ℤ pos ((5 + 3 * class) * 100000000000) → m ≤ℤ pos ((5 + 3 * above) * 100000000000)
tolerated_above class above m l h = omega (arith, ints, l, h)

-- points in range that are tolerated at the class or below are near their places
pub near_places : (class tried : ℕ) (f : LocalFrame) (points : List MapPoint) (leeways : List Leeway) (ats : List Point) → tried ≤ class → IsFrame f → AreLeewaysAt class points leeways
    → AllByRecursion (IsInRange f) ats → AreTolerated tried (map (local4 f) ats) points → (i : ℕ) → i < length points
    → IsNearPlace f (slice_index_or points i (record { x = pos 0; y = pos 0; tol = record { f1 = pos 0; f2 = pos 0; f3 = pos 0 } })) (slice_index_or leeways i (record { along = 0; left = 0 })) (slice_index_or ats i (record { x = pos 0; y = pos 0 }))
near_places class tried f [] leeways ats l k h r t i w = absurd (omega (arith, w))
near_places class tried f (p ∷ points) [] ats l k h r t i w = absurd h
near_places class tried f (p ∷ points) (v ∷ vs) [] l k h r t i w = absurd t
near_places class tried f (p ∷ points) (v ∷ vs) (at ∷ ats) l k h r t zero w = h.0.near f at k r.0 (tolerated_above tried class (measure p.tol ((local4 f at).x -ℤ p.x) ((local4 f at).y -ℤ p.y)) l t.0)
near_places class tried f (p ∷ points) (v ∷ vs) (at ∷ ats) l k h r t (suc i) w = near_places class tried f points vs ats l k h.1 r.1 t.1 i (omega (arith, w))
