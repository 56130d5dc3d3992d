-- What need not be looked at in a run: a place that an element already has as a corner and that is on no front line takes no further element; a front point in an open zone is an end of a front line that is not apart from it.
-- Near the place v the winding number of the front is that of v (Parted). In the old element it is 0, since the boundary winds at most once; in the new one it would be 1.
use lib.IntN.{ℤ, pos, ◌+ℤ◌}
use lib.Signed.{◌<ℤ◌, ◌≤ℤ◌}
use mathlib.Core.Path.{◌≡◌, sym, ◌∙◌, subst}
use mathlib.Core.List.{List, [], ◌∷◌, ◌++◌}
use mathlib.Core.Logic.{◌⊎◌, inl, inr}
use native.Mathlib.Omega.{arith}
use Rattle.std.proofs.lemmas.Int.{ints, clamps}
use Rattle.std.specs.List.{AllByRecursion}
use Rattle.grid_geom.specs.declared.Point.{Point}
use Rattle.grid_geom.specs.declared.RatPoint.{RatPoint}
use Rattle.grid_geom.specs.declared.Edge.{Edge}
use Rattle.grid_geom.specs.Plane.{orient, orient_rat, IsRational}
use Rattle.grid_geom.specs.Line.{whole}
use Rattle.grid_geom.specs.Sides.{IsOnClosed, IsOnOpen}
use Rattle.grid_geom.specs.Polygon.{sides, IsStrictlyConvex, IsInPolygon, IsApart}
use Rattle.grid_geom.specs.Winding.{wind}
use Rattle.grid_geom.specs.Closed.{IsEdge, IsOff}
use Rattle.grid_geom.proofs.Lines.{orient_whole, flat_first, flat_second}
use Rattle.grid_geom.proofs.Entering.{apart_none}
use Rattle.wind_law.specs.Centre.{centre}
use Rattle.wind_law.specs.Near.{IsInClosure}
use Rattle.wind_law.proofs.Inside.{centre_in_polygon, centre_rational}
use Rattle.wind_law.proofs.Additive.{wind_append}
use Rattle.wind_law.proofs.Corners.{IsEndOrLeft}
use Rattle.wind_law.proofs.Polygons.{weak_end, polygon_inside, polygon_outside, by_corners}
use Rattle.state_law.specs.Gluing.{IsClearOf, MayBeGlued}
use Rattle.state_law.specs.Kept.{all_sides, IsNoneOrOne, IsOffState, IsKept}
use Rattle.state_law.specs.Saved.{IsCorner, IsElement, IsNoEnd}
use Rattle.state_law.proofs.Lists.{all_map, all_both, all_first, all_second}
use Rattle.state_law.proofs.Parted.{HasAlikeNear, alike_near}
use Rattle.state_law.proofs.KeptOn.{inside_or_not, wind_inside, kept_wind}
use Rattle.state_law.proofs.CentreSaved.{parts_off, state_edges}

-- ---- a corner is in the closed polygon
pub at_corner : (P : Point → Type 0) (c : Point) (cs : List Point) → AllByRecursion P cs → IsCorner c cs → P c
at_corner P c [] h i = absurd i
at_corner P c (d ∷ cs) h (inl i) = subst P i h.0
at_corner P c (d ∷ cs) h (inr i) = at_corner P c cs h.1 i

pub corner_closure : (c : Point) (cs : List Point) → IsStrictlyConvex cs → IsCorner c cs → IsInClosure (whole c) cs
corner_closure c cs v i = record {
  left = all_map (λ s. AllByRecursion (IsEndOrLeft s) cs) (λ s. pos 0 ≤ℤ orient_rat s.a s.b (whole c)) (λ s h. subst (λ (z : ℤ). pos 0 ≤ℤ z) (sym (orient_whole s.a s.b c)) (weak_end s c (at_corner (IsEndOrLeft s) c cs h i))) (sides cs)
      (by_corners cs v (λ o u w ws f e. subst (λ (l : List Point). AllByRecursion (λ s. AllByRecursion (IsEndOrLeft s) l) (sides l)) (sym e) f.strict));
}

-- ---- a place that is no end of a front line, and in no open front line, is on none
pub on_end_or_open : (c a b : Point) → IsOnClosed (whole c) a b → ¬ (c ≡ a) → ¬ (c ≡ b) → IsOnOpen c a b
on_end_or_open c a b h n m = record {
  straight = sym (orient_whole a b c) ∙ h.straight;
  right_of_least = omega (arith, ints, h.right_of_least);
  left_of_greatest = omega (arith, ints, h.left_of_greatest);
  above_least = omega (arith, ints, h.above_least);
  below_greatest = omega (arith, ints, h.below_greatest);
  not_a = n;
  not_b = m;
}

corner_off : (c : Point) (cs : List Point) (front : List Edge) → IsCorner c cs → AllByRecursion (IsClearOf cs) front → AllByRecursion (IsNoEnd c) front → IsOff (whole c) front
corner_off c cs front i h n = all_both (IsClearOf cs) (IsNoEnd c) (λ e. ¬ (IsOnClosed (whole c) e.a e.b)) (λ e x y o. at_corner (λ c. ¬ (IsOnOpen c e.a e.b)) c cs x.corners_off_line i (on_end_or_open c e.a e.b o y.0 y.1)) front h n

-- ---- the elements' winding numbers
pub one_or_none_wind : (q : RatPoint) (cs : List Point) → IsRational q → IsStrictlyConvex cs → IsOff q (sides cs) → pos 0 ≤ℤ wind q (sides cs)
one_or_none_wind q cs kq v o = elim (inside_or_not q cs) [
  | inl i ↦ positive (polygon_inside cs q v kq i)
  | inr n ↦ level (polygon_outside cs q v kq o n)
]
  where
    positive : {a : ℤ} → a ≡ pos 1 → pos 0 ≤ℤ a
    positive {a} e = omega (arith, ints)

    level : {a : ℤ} → a ≡ pos 0 → pos 0 ≤ℤ a
    level {a} e = omega (arith, ints)

pub least_wind : (q : RatPoint) (elements : List (List Point)) → IsRational q → AllByRecursion IsStrictlyConvex elements → IsOff q (all_sides elements) → pos 0 ≤ℤ wind q (all_sides elements)
least_wind q [] kq v o = omega (arith, ints)
least_wind q (cs ∷ elements) kq v o = more (wind_append q (sides cs) (all_sides elements)) (one_or_none_wind q cs kq v.0 (all_first (λ e. ¬ (IsOnClosed q e.a e.b)) (sides cs) (all_sides elements) o)) (least_wind q elements kq v.1 (all_second (λ e. ¬ (IsOnClosed q e.a e.b)) (sides cs) (all_sides elements) o))
  where
    more : {a b c : ℤ} → a ≡ b +ℤ c → pos 0 ≤ℤ b → pos 0 ≤ℤ c → pos 0 ≤ℤ a
    more {a} {b} {c} e h i = omega (arith, ints)

-- in an element they add up to at least 1
pub one_wind : (q : RatPoint) (ds : List Point) (elements : List (List Point)) → IsRational q → AllByRecursion IsStrictlyConvex elements → IsOff q (all_sides elements) → IsElement ds elements → IsInPolygon q ds → pos 1 ≤ℤ wind q (all_sides elements)
one_wind q ds [] kq v o e i = absurd e
one_wind q ds (cs ∷ elements) kq v o (inl e) i = more (wind_append q (sides cs) (all_sides elements)) (polygon_inside cs q v.0 kq (subst (IsInPolygon q) (sym e) i)) (least_wind q elements kq v.1 (all_second (λ e. ¬ (IsOnClosed q e.a e.b)) (sides cs) (all_sides elements) o))
  where
    more : {a b c : ℤ} → a ≡ b +ℤ c → b ≡ pos 1 → pos 0 ≤ℤ c → pos 1 ≤ℤ a
    more {a} {b} {c} e h i = omega (arith, ints)
one_wind q ds (cs ∷ elements) kq v o (inr n) i = more (wind_append q (sides cs) (all_sides elements)) (one_or_none_wind q cs kq v.0 (all_first (λ e. ¬ (IsOnClosed q e.a e.b)) (sides cs) (all_sides elements) o)) (one_wind q ds elements kq v.1 (all_second (λ e. ¬ (IsOnClosed q e.a e.b)) (sides cs) (all_sides elements) o) n i)
  where
    more : {a b c : ℤ} → a ≡ b +ℤ c → pos 0 ≤ℤ b → pos 1 ≤ℤ c → pos 1 ≤ℤ a
    more {a} {b} {c} e h i = omega (arith, ints)

-- in an element the front winds 0 times, where the boundary winds at most once
pub none_in_element : (boundary others front : List Edge) (elements : List (List Point)) (ds : List Point) (q : RatPoint) → IsKept boundary others front elements → IsElement ds elements → IsRational q → IsOffState others front elements q → IsInPolygon q ds → wind q boundary ≤ℤ pos 1 → wind q front ≡ pos 0
none_in_element boundary others front elements ds q k d kq o i b = none (k.single q kq o) (kept_wind boundary others front elements k q) (one_wind q ds elements kq k.convex o.off_elements d i) b
  where
    none : {f s t : ℤ} → IsNoneOrOne f → s ≡ f +ℤ t → pos 1 ≤ℤ t → s ≤ℤ pos 1 → f ≡ pos 0
    none {f} {s} {t} (inl h) e g j = h
    none {f} {s} {t} (inr h) e g j = absurd (omega (arith, ints))

-- ---- the law
pub element_convex : (ds : List Point) (elements : List (List Point)) → AllByRecursion IsStrictlyConvex elements → IsElement ds elements → IsStrictlyConvex ds
element_convex ds [] v e = absurd e
element_convex ds (cs ∷ elements) v (inl e) = subst IsStrictlyConvex e v.0
element_convex ds (cs ∷ elements) v (inr n) = element_convex ds elements v.1 n

-- a place off the front that is in an old element and in the new one, at least on their sides
pub taken : (boundary others front : List Edge) (elements : List (List Point)) (ds cs : List Point) (v : RatPoint) → IsKept boundary others front elements → ((q : RatPoint) → IsRational q → IsOff q others → wind q boundary ≤ℤ pos 1) → IsRational v → IsOff v front → IsElement ds elements → IsInClosure v ds → IsInClosure v cs → ¬ (MayBeGlued cs front)
taken boundary others front elements ds cs v k b kv off d i j m = clash
    (alike_near v ds front all_of kv (element_convex ds elements k.convex d) i k.edges k.closed off edged)
    (alike_near v cs front all_of kv m.turned j k.edges k.closed off edged)
  where
    all_of : List Edge
    all_of = others ++ (front ++ all_sides elements)

    edged : AllByRecursion IsEdge all_of
    edged = state_edges boundary others front elements k

    clash : HasAlikeNear v ds front all_of → HasAlikeNear v cs front all_of → ⊥
    clash u w = different (none_in_element boundary others front elements ds u.at k d u.rational (parts_off others front elements u.at u.off) u.inside (b u.at u.rational (parts_off others front elements u.at u.off).off_others))
        (wind_inside cs front w.at k.edges k.closed m w.rational w.inside) u.alike w.alike
      where
        different : {x y z : ℤ} → x ≡ pos 0 → y ≡ pos 1 → x ≡ z → y ≡ z → ⊥
        different {x} {y} {z} e f g h = omega (arith, ints)

pub taken_place : (boundary others front : List Edge) (elements : List (List Point)) (ds cs : List Point) (c : Point) → IsKept boundary others front elements → ((q : RatPoint) → IsRational q → IsOff q others → wind q boundary ≤ℤ pos 1) → IsElement ds elements → IsCorner c ds → IsCorner c cs → AllByRecursion (IsNoEnd c) front → ¬ (MayBeGlued cs front)
taken_place boundary others front elements ds cs c k b d i j n m = taken boundary others front elements ds cs (whole c) k b (record { positive = omega (arith, ints) }) (corner_off c cs front j m.clear n) d
    (corner_closure c ds (element_convex ds elements k.convex d) i) (corner_closure c cs m.turned j) m

-- ---- a front point in the zone
pub start_closed : (a b : Point) → IsOnClosed (whole a) a b
start_closed a b = record {
  straight = orient_whole a b a ∙ flat a b;
  right_of_least = omega (arith, ints, clamps);
  left_of_greatest = omega (arith, ints, clamps);
  above_least = omega (arith, ints, clamps);
  below_greatest = omega (arith, ints, clamps);
}
  where
    flat : (a b : Point) → orient a b a ≡ pos 0
    flat a b = flat_first a b

pub end_closed : (a b : Point) → IsOnClosed (whole b) a b
end_closed a b = record {
  straight = orient_whole a b b ∙ flat_second a b;
  right_of_least = omega (arith, ints, clamps);
  left_of_greatest = omega (arith, ints, clamps);
  above_least = omega (arith, ints, clamps);
  below_greatest = omega (arith, ints, clamps);
}

pub point_in_zone : (zone : List Point) (e : Edge) (c : Point) → IsStrictlyConvex zone → IsEdge e → (c ≡ e.a) ⊎ (c ≡ e.b) → IsInPolygon (whole c) zone → ¬ (IsApart e.a e.b zone)
point_in_zone zone e c v n (inl i) h a = apart_none e.a e.b zone n v a (record { at = whole c; rational = record { positive = omega (arith, ints) }; on = subst (λ (p : Point). IsOnClosed (whole p) e.a e.b) (sym i) (start_closed e.a e.b); inside = h })
point_in_zone zone e c v n (inr i) h a = apart_none e.a e.b zone n v a (record { at = whole c; rational = record { positive = omega (arith, ints) }; on = subst (λ (p : Point). IsOnClosed (whole p) e.a e.b) (sym i) (end_closed e.a e.b); inside = h })

-- ---- an element that is clear of the front lines and fails by its centre alone
pub record IsOutside (cs : List Point) (front : List Edge) : Type 0 where
  pub off : IsOff (centre cs) front
  pub none : wind (centre cs) front ≤ℤ pos 0

off_apart : (cs : List Point) (front : List Edge) → IsStrictlyConvex cs → AllByRecursion IsEdge front → AllByRecursion (λ e. IsApart e.a e.b cs) front → IsOff (centre cs) front
off_apart cs [] v n a = tt
off_apart cs (e ∷ front) v n a = ((λ o. apart_none e.a e.b cs n.0 v a.0 (record { at = centre cs; rational = centre_rational cs v; on = o; inside = centre_in_polygon cs v })), off_apart cs front v n.1 a.1)

pub centre_outside : (boundary others front : List Edge) (elements : List (List Point)) (cs : List Point) → IsKept boundary others front elements → IsStrictlyConvex cs → AllByRecursion (λ e. IsApart e.a e.b cs) front → ¬ (wind (centre cs) front ≡ pos 1) → IsOutside cs front
centre_outside boundary others front elements cs k v a n = from (alike_near (centre cs) cs front (others ++ (front ++ all_sides elements)) (centre_rational cs v) v closure k.edges k.closed (off_apart cs front v k.edges a) (state_edges boundary others front elements k))
  where
    closure : IsInClosure (centre cs) cs
    closure = record { left = all_map (λ e. pos 0 <ℤ orient_rat e.a e.b (centre cs)) (λ e. pos 0 ≤ℤ orient_rat e.a e.b (centre cs)) (λ e h. at_least h) (sides cs) (centre_in_polygon cs v).left }
      where
        at_least : {z : ℤ} → pos 0 <ℤ z → pos 0 ≤ℤ z
        at_least {z} h = omega (arith, ints)

    from : HasAlikeNear (centre cs) cs front (others ++ (front ++ all_sides elements)) → IsOutside cs front
    from r = record { off = off_apart cs front v k.edges a; none = small r.alike (k.single r.at r.rational (parts_off others front elements r.at r.off)) n }
      where
        small : {x y : ℤ} → x ≡ y → IsNoneOrOne x → ¬ (y ≡ pos 1) → y ≤ℤ pos 0
        small {x} {y} e (inl h) n = omega (arith, ints)
        small {x} {y} e (inr h) n = absurd (n (sym e ∙ h))
