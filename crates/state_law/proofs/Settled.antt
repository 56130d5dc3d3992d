-- A place that is outside a front's region and on none of its lines takes no further element, and stays so. A corner of a glued element that is no end of a front line afterwards is such a place. So each listed place is a front point or settled, and no element has to be remembered for it.
-- Beside the place, in the element that has it as a corner, the front winds as at the place: 0 times. An element that may be glued is wound round once. Stands on Region, Saved and Hanging.
use lib.IntN.{ℤ, pos, ◌-ℤ◌}
use lib.Signed.{◌<ℤ◌, ◌≤ℤ◌}
use mathlib.Core.Path.{◌≡◌, sym, ◌∙◌, subst}
use mathlib.Core.List.{List, [], ◌∷◌, ◌++◌}
use mathlib.Core.Logic.{◌⊎◌, inl, inr}
use native.Mathlib.Omega.{arith}
use Rattle.std.proofs.lemmas.Int.{ints, clamps}
use Rattle.std.specs.List.{AllByRecursion}
use Rattle.grid_geom.specs.declared.Point.{Point}
use Rattle.grid_geom.specs.declared.RatPoint.{RatPoint}
use Rattle.grid_geom.specs.declared.Edge.{Edge}
use Rattle.grid_geom.specs.Plane.{orient, orient_rat, IsRational}
use Rattle.grid_geom.specs.Line.{whole, through}
use Rattle.grid_geom.specs.Sides.{IsOnClosed, IsOnOpen}
use Rattle.grid_geom.specs.Polygon.{sides, IsStrictlyConvex, IsInPolygon}
use Rattle.grid_geom.specs.Winding.{wind}
use Rattle.grid_geom.specs.Closed.{IsClosed, IsEdge, IsOff}
use Rattle.grid_geom.proofs.Lines.{through_is, orient_whole, orient_back}
use Rattle.grid_geom.proofs.Means.{mean_right}
use Rattle.grid_geom.proofs.SharedPoint.{closed_segment}
use Rattle.wind_law.specs.Chains.{back}
use Rattle.wind_law.specs.Near.{IsInClosure}
use Rattle.wind_law.specs.Centre.{centre}
use Rattle.wind_law.proofs.Corners.{IsEndOrLeft}
use Rattle.wind_law.proofs.Polygons.{weak_end, by_corners}
use Rattle.state_law.specs.Free.{IsIn}
use Rattle.state_law.specs.Gluing.{glue, glue_all, IsClearOf, MayBeGlued, MayAllBeGlued}
use Rattle.state_law.specs.Saved.{IsCorner, IsElementCorner, IsFrontPoint, IsNoEnd}
use Rattle.state_law.specs.Region.{IsRegion, IsSettled, AreFrontOrSettled}
use Rattle.state_law.proofs.Lists.{all_map, all_both, all_append, at_edge}
use Rattle.state_law.proofs.GluedFree.{all_glue_sides}
use Rattle.state_law.proofs.SidesFree.{DoesSee, seen_sides, not_open}
use Rattle.state_law.proofs.Untangled.{open_back}
use Rattle.state_law.proofs.KeptOn.{wind_inside, glued_inside, glued_outside}
use Rattle.state_law.proofs.Parted.{HasAlikeNear, alike_near}
use Rattle.state_law.proofs.Saved.{at_corner, corner_closure, on_end_or_open}
use Rattle.state_law.proofs.Hanging.{each_in, front_point_or_not, still_used}
use Rattle.state_law.proofs.Region.{region_on}

whole_rational : (p : Point) → IsRational (whole p)
whole_rational p = record { positive = omega (arith, ints) }

-- ---- a point of a closed side is in the closed polygon
pub closed_left : (s t : Edge) (q : RatPoint) → IsRational q → pos 0 ≤ℤ orient s.a s.b t.a → pos 0 ≤ℤ orient s.a s.b t.b → IsOnClosed q t.a t.b → pos 0 ≤ℤ orient_rat s.a s.b q
closed_left s t q kq h i o = turned (through_is s.b s.a q) (orient_back s.a s.b q) (mean_right (through s.b s.a) q (whole t.a) (whole t.b) (closed_segment t.a t.b q kq.positive o) kq.positive (omega (arith, ints)) (omega (arith, ints))
    (right (through_is s.b s.a (whole t.a)) (orient_back s.a s.b (whole t.a)) (orient_whole s.a s.b t.a) h) (right (through_is s.b s.a (whole t.b)) (orient_back s.a s.b (whole t.b)) (orient_whole s.a s.b t.b) i))
  where
    right : {x y z w : ℤ} → x ≡ y → y ≡ pos 0 -ℤ z → z ≡ w → pos 0 ≤ℤ w → x ≤ℤ pos 0
    right {x} {y} {z} {w} e f g h = omega (arith, ints)

    turned : {x y z : ℤ} → x ≡ y → y ≡ pos 0 -ℤ z → x ≤ℤ pos 0 → pos 0 ≤ℤ z
    turned {x} {y} {z} e f h = omega (arith, ints)

closed_closure : (q : RatPoint) (cs : List Point) (t : Edge) → IsRational q → IsStrictlyConvex cs → IsIn t (sides cs) → IsOnClosed q t.a t.b → IsInClosure q cs
closed_closure q cs t kq c i o = record { left = all_map (λ s. AllByRecursion (DoesSee (centre cs) s) (sides cs)) (λ s. pos 0 ≤ℤ orient_rat s.a s.b q) (λ s h. at s (at_edge (DoesSee (centre cs) s) t (sides cs) h i)) (sides cs) (seen_sides cs c) }
  where
    at : (s : Edge) → DoesSee (centre cs) s t → pos 0 ≤ℤ orient_rat s.a s.b q
    at s h = closed_left s t q kq (weak_end s t.a h.start) (weak_end s t.b h.finish) o

pub closure_of : (q : RatPoint) (cs : List Point) → IsInPolygon q cs → IsInClosure q cs
closure_of q cs i = record { left = all_map (λ e. pos 0 <ℤ orient_rat e.a e.b q) (λ e. pos 0 ≤ℤ orient_rat e.a e.b q) (λ e h. weak h) (sides cs) i.left }
  where
    weak : {z : ℤ} → pos 0 <ℤ z → pos 0 ≤ℤ z
    weak {z} h = omega (arith, ints)

pub off_closure : (q : RatPoint) (cs : List Point) → IsRational q → IsStrictlyConvex cs → ¬ (IsInClosure q cs) → IsOff q (sides cs)
off_closure q cs kq c n = each_in (λ e. ¬ (IsOnClosed q e.a e.b)) (sides cs) (λ t i o. n (closed_closure q cs t kq c i o))

closed_back : (p a b : Point) → IsOnClosed (whole p) b a → IsOnClosed (whole p) a b
closed_back p a b h = record {
  straight = level (orient_back a b (whole p)) h.straight;
  right_of_least = omega (arith, ints, clamps, h.right_of_least);
  left_of_greatest = omega (arith, ints, clamps, h.left_of_greatest);
  above_least = omega (arith, ints, clamps, h.above_least);
  below_greatest = omega (arith, ints, clamps, h.below_greatest);
}
  where
    level : {x y : ℤ} → y ≡ pos 0 -ℤ x → y ≡ pos 0 → x ≡ pos 0
    level {x} {y} e f = omega (arith, ints)

-- ---- a settled place takes no element
pub settled_beside : (front : List Edge) (cs : List Point) (p : Point) → AllByRecursion IsEdge front → IsClosed front → IsSettled front p → MayBeGlued cs front → ¬ (IsInClosure (whole p) cs)
settled_beside front cs p n c s m i = clash (alike_near (whole p) cs front front (whole_rational p) m.turned i n c s.off n)
  where
    clash : HasAlikeNear (whole p) cs front front → ⊥
    clash r = different r.alike s.none (wind_inside cs front r.at n c m r.rational r.inside)
      where
        different : {x y : ℤ} → x ≡ y → y ≡ pos 0 → x ≡ pos 1 → ⊥
        different {x} {y} e f g = omega (arith, ints)

pub settled_taken : (front : List Edge) (cs : List Point) (p : Point) → IsRegion front → IsSettled front p → IsCorner p cs → ¬ (MayBeGlued cs front)
settled_taken front cs p r s i m = settled_beside front cs p r.edges r.closed s m (corner_closure p cs m.turned i)

-- ---- and stays settled
pub settled_on : (front : List Edge) (cs : List Point) (p : Point) → IsRegion front → IsSettled front p → MayBeGlued cs front → IsSettled (glue front cs) p
settled_on front cs p r s m = record {
  off = all_glue_sides (λ e. ¬ (IsOnClosed (whole p) e.a e.b)) front (sides cs) s.off (all_map (λ t. ¬ (IsOnClosed (whole p) t.a t.b)) (λ t. ¬ (IsOnClosed (whole p) (back t).a (back t).b)) (λ t n o. n (closed_back p t.a t.b o)) (sides cs) off);
  none = glued_outside cs front (whole p) m.turned (whole_rational p) off (λ i. outside (closure_of (whole p) cs i)) ∙ s.none;
}
  where
    outside : ¬ (IsInClosure (whole p) cs)
    outside = settled_beside front cs p r.edges r.closed s m

    off : IsOff (whole p) (sides cs)
    off = off_closure (whole p) cs (whole_rational p) m.turned outside

pub settled_taken_all : (front : List Edge) (elements : List (List Point)) (p : Point) → IsRegion front → IsSettled front p → IsElementCorner p elements → ¬ (MayAllBeGlued elements front)
settled_taken_all front [] p r s i m = i
settled_taken_all front (cs ∷ elements) p r s (inl i) m = settled_taken front cs p r s i m.0
settled_taken_all front (cs ∷ elements) p r s (inr i) m = settled_taken_all (glue front cs) elements p (region_on front cs r m.0) (settled_on front cs p r s m.0) i m.1

-- ---- a corner that is no end of a front line is settled
pub corner_settled : (front : List Edge) (cs : List Point) (p : Point) → IsRegion front → MayBeGlued cs front → IsCorner p cs → AllByRecursion (IsNoEnd p) (glue front cs) → IsSettled (glue front cs) p
corner_settled front cs p r m i n = record { off = off; none = from (alike_near (whole p) cs (glue front cs) (glue front cs) (whole_rational p) m.turned (corner_closure p cs m.turned i) after.edges after.closed off after.edges) }
  where
    after : IsRegion (glue front cs)
    after = region_on front cs r m

    lines : AllByRecursion (λ e. ¬ (IsOnOpen p e.a e.b)) front
    lines = all_map (IsClearOf cs) (λ e. ¬ (IsOnOpen p e.a e.b)) (λ e c. at_corner (λ c. ¬ (IsOnOpen c e.a e.b)) p cs c.corners_off_line i) front m.clear

    own : AllByRecursion (λ s. ¬ (IsOnOpen p s.a s.b)) (sides cs)
    own = all_map (λ s. AllByRecursion (IsEndOrLeft s) cs) (λ s. ¬ (IsOnOpen p s.a s.b)) (λ s x o. not_open s p (at_corner (IsEndOrLeft s) p cs x i) o.straight o.not_a o.not_b) (sides cs)
        (by_corners cs m.turned (λ o u w ws f e. subst (λ (l : List Point). AllByRecursion (λ s. AllByRecursion (IsEndOrLeft s) l) (sides l)) (sym e) f.strict))

    off : IsOff (whole p) (glue front cs)
    off = all_both (IsNoEnd p) (λ e. ¬ (IsOnOpen p e.a e.b)) (λ e. ¬ (IsOnClosed (whole p) e.a e.b)) (λ e x y o. y (on_end_or_open p e.a e.b o x.0 x.1)) (glue front cs) n
        (all_glue_sides (λ e. ¬ (IsOnOpen p e.a e.b)) front (sides cs) lines (all_map (λ s. ¬ (IsOnOpen p s.a s.b)) (λ s. ¬ (IsOnOpen p (back s).a (back s).b)) (λ s n o. n (open_back p s.a s.b o)) (sides cs) own))

    from : HasAlikeNear (whole p) cs (glue front cs) (glue front cs) → wind (whole p) (glue front cs) ≡ pos 0
    from h = sym h.alike ∙ glued_inside cs front h.at r.edges r.closed m h.rational h.inside

-- ---- each place: a front point or settled
corner_on : (front : List Edge) (cs : List Point) (p : Point) → IsRegion front → MayBeGlued cs front → IsCorner p cs → IsFrontPoint (glue front cs) p ⊎ IsSettled (glue front cs) p
corner_on front cs p r m i = elim (front_point_or_not (glue front cs) p) [ inl f ↦ inl f | inr n ↦ inr (corner_settled front cs p r m i n) ]

pub place_on : (front : List Edge) (cs : List Point) (p : Point) → IsRegion front → MayBeGlued cs front → (IsFrontPoint front p ⊎ IsSettled front p) ⊎ IsCorner p cs → IsFrontPoint (glue front cs) p ⊎ IsSettled (glue front cs) p
place_on front cs p r m (inl (inr s)) = inr (settled_on front cs p r s m)
place_on front cs p r m (inr i) = corner_on front cs p r m i
place_on front cs p r m (inl (inl f)) = elim (still_used front [] cs p (inl (inl f))) [
  | inl g ↦ inl g
  | inr j ↦ elim j [ inl i ↦ corner_on front cs p r m i | inr j ↦ absurd j ]
]

pub place_all : (front : List Edge) (elements : List (List Point)) (p : Point) → IsRegion front → MayAllBeGlued elements front → (IsFrontPoint front p ⊎ IsSettled front p) ⊎ IsElementCorner p elements → IsFrontPoint (glue_all front elements) p ⊎ IsSettled (glue_all front elements) p
place_all front [] p r m (inl h) = h
place_all front [] p r m (inr i) = absurd i
place_all front (cs ∷ elements) p r m h = place_all (glue front cs) elements p (region_on front cs r m.0) m.1 (next h)
  where
    next : (IsFrontPoint front p ⊎ IsSettled front p) ⊎ IsElementCorner p (cs ∷ elements) → (IsFrontPoint (glue front cs) p ⊎ IsSettled (glue front cs) p) ⊎ IsElementCorner p elements
    next (inl h) = inl (place_on front cs p r m.0 (inl h))
    next (inr (inl i)) = inl (place_on front cs p r m.0 (inr i))
    next (inr (inr i)) = inr i

-- of a list of places, and those that an application makes
pub listed_all : (front : List Edge) (points made : List Point) (elements : List (List Point)) → IsRegion front → AreFrontOrSettled front points → MayAllBeGlued elements front → AllByRecursion (λ p. IsElementCorner p elements) made → AreFrontOrSettled (glue_all front elements) (points ++ made)
listed_all front points made elements r a m c = all_append (λ p. IsFrontPoint (glue_all front elements) p ⊎ IsSettled (glue_all front elements) p) points made
    (all_map (λ p. IsFrontPoint front p ⊎ IsSettled front p) (λ p. IsFrontPoint (glue_all front elements) p ⊎ IsSettled (glue_all front elements) p) (λ p h. place_all front elements p r m (inl h)) points a)
    (all_map (λ p. IsElementCorner p elements) (λ p. IsFrontPoint (glue_all front elements) p ⊎ IsSettled (glue_all front elements) p) (λ p i. place_all front elements p r m (inr i)) made c)

-- a corner of an application that is no front point is no listed place
pub fresh : (front : List Edge) (points : List Point) (elements : List (List Point)) (p : Point) → IsRegion front → AreFrontOrSettled front points → MayAllBeGlued elements front → IsElementCorner p elements → ¬ (IsFrontPoint front p) → ¬ (IsCorner p points)
fresh front points elements p r a m i n j = elim (at_corner (λ p. IsFrontPoint front p ⊎ IsSettled front p) p points a j) [
  | inl f ↦ n f
  | inr s ↦ settled_taken_all front elements p r s i m
]
