-- Gluing brings no hanging point: no front point and no corner of an element comes to lie in an open side of an element or in an open front line.
-- Front points and corners of the new element are looked at by clause 3 of gluing. Any other point that hung would be off the front, on an old element and on the new one; there the front would wind 0 times and once (Saved). Stands on Saved.
use lib.IntN.{ℤ, pos, ◌-ℤ◌}
use lib.Signed.{◌≤ℤ◌}
use mathlib.Core.Path.{◌≡◌, refl, sym, ◌∙◌, subst}
use mathlib.Core.List.{List, [], ◌∷◌, ◌++◌}
use mathlib.Core.Logic.{◌⊎◌, inl, inr}
use native.Mathlib.Omega.{arith}
use Rattle.std.proofs.lemmas.Int.{ints}
use Rattle.std.specs.List.{AllByRecursion}
use Rattle.grid_geom.specs.declared.Point.{Point}
use Rattle.grid_geom.specs.declared.Edge.{Edge}
use Rattle.grid_geom.specs.Plane.{orient, orient_rat}
use Rattle.grid_geom.specs.Line.{whole, through}
use Rattle.grid_geom.specs.Sides.{IsOnClosed, IsOnOpen}
use Rattle.grid_geom.specs.Polygon.{sides, IsStrictlyConvex}
use Rattle.grid_geom.specs.Closed.{IsOff}
use Rattle.grid_geom.proofs.Lines.{through_is, orient_whole, orient_back}
use Rattle.grid_geom.proofs.Means.{mean_right}
use Rattle.grid_geom.proofs.SharedPoint.{same_or_not, closed_segment}
use Rattle.wind_law.specs.Chains.{back}
use Rattle.wind_law.specs.Near.{IsInClosure}
use Rattle.wind_law.specs.Centre.{centre}
use Rattle.wind_law.proofs.Corners.{IsEndOrLeft}
use Rattle.wind_law.proofs.Polygons.{weak_end, by_corners}
use Rattle.state_law.specs.Free.{IsIn}
use Rattle.state_law.specs.Gluing.{glue, IsClearOf, MayBeGlued}
use Rattle.state_law.specs.Kept.{all_sides, IsKept}
use Rattle.state_law.specs.Saved.{IsCorner, IsElement, IsElementCorner, IsFrontPoint, IsNoEnd}
use Rattle.state_law.specs.Conforming.{IsBoundary, IsUsed, DoesNotHang, HasNoHanging}
use Rattle.state_law.proofs.Lists.{all_map, all_both, all_append, at_edge, side_ends}
use Rattle.state_law.proofs.GluedFree.{all_glue_sides, unglued_sides}
use Rattle.state_law.proofs.SidesFree.{DoesSee, seen_sides, not_open}
use Rattle.state_law.proofs.Untangled.{open_back}
use Rattle.state_law.proofs.Saved.{at_corner, taken, element_convex, corner_closure, on_end_or_open}

-- ---- a place between the ends of a side is in the closed polygon
open_closed : (p a b : Point) → IsOnOpen p a b → IsOnClosed (whole p) a b
open_closed p a b h = record {
  straight = orient_whole a b p ∙ h.straight;
  right_of_least = omega (arith, ints, h.right_of_least);
  left_of_greatest = omega (arith, ints, h.left_of_greatest);
  above_least = omega (arith, ints, h.above_least);
  below_greatest = omega (arith, ints, h.below_greatest);
}

between_left : (s t : Edge) (v : Point) → pos 0 ≤ℤ orient s.a s.b t.a → pos 0 ≤ℤ orient s.a s.b t.b → IsOnOpen v t.a t.b → pos 0 ≤ℤ orient_rat s.a s.b (whole v)
between_left s t v h i o = turned (through_is s.b s.a (whole v)) (orient_back s.a s.b (whole v)) (mean_right (through s.b s.a) (whole v) (whole t.a) (whole t.b) (closed_segment t.a t.b (whole v) (omega (arith, ints)) (open_closed v t.a t.b o)) (omega (arith, ints)) (omega (arith, ints)) (omega (arith, ints))
    (right (through_is s.b s.a (whole t.a)) (orient_back s.a s.b (whole t.a)) (orient_whole s.a s.b t.a) h) (right (through_is s.b s.a (whole t.b)) (orient_back s.a s.b (whole t.b)) (orient_whole s.a s.b t.b) i))
  where
    right : {x y z w : ℤ} → x ≡ y → y ≡ pos 0 -ℤ z → z ≡ w → pos 0 ≤ℤ w → x ≤ℤ pos 0
    right {x} {y} {z} {w} e f g h = omega (arith, ints)

    turned : {x y z : ℤ} → x ≡ y → y ≡ pos 0 -ℤ z → x ≤ℤ pos 0 → pos 0 ≤ℤ z
    turned {x} {y} {z} e f h = omega (arith, ints)

pub side_closure : (v : Point) (cs : List Point) (t : Edge) → IsStrictlyConvex cs → IsIn t (sides cs) → IsOnOpen v t.a t.b → IsInClosure (whole v) cs
side_closure v cs t c i o = record { left = all_map (λ s. AllByRecursion (DoesSee (centre cs) s) (sides cs)) (λ s. pos 0 ≤ℤ orient_rat s.a s.b (whole v)) (λ s h. at s (at_edge (DoesSee (centre cs) s) t (sides cs) h i)) (sides cs) (seen_sides cs c) }
  where
    at : (s : Edge) → DoesSee (centre cs) s t → pos 0 ≤ℤ orient_rat s.a s.b (whole v)
    at s h = between_left s t v (weak_end s t.a h.start) (weak_end s t.b h.finish) o

-- for each side, given a place that it leads to
pub each_in : (P : Edge → Type 0) (es : List Edge) → ((e : Edge) → IsIn e es → P e) → AllByRecursion P es
each_in P [] f = tt
each_in P (e ∷ es) f = (f e (inl refl), each_in P es (λ g i. f g (inr i)))

-- ---- the elements' sides, element by element
each_side : (P : Edge → Type 0) (elements : List (List Point)) → ((ds : List Point) → IsElement ds elements → AllByRecursion P (sides ds)) → AllByRecursion P (all_sides elements)
each_side P [] f = tt
each_side P (cs ∷ elements) f = all_append P (sides cs) (all_sides elements) (f cs (inl refl)) (each_side P elements (λ ds i. f ds (inr i)))

new_sides : (P : Edge → Type 0) (elements : List (List Point)) (cs : List Point) → AllByRecursion P (all_sides elements) → AllByRecursion P (sides cs) → AllByRecursion P (all_sides (elements ++ cs ∷ []))
new_sides P elements cs h i = each_side P (elements ++ cs ∷ []) (λ ds j. cases ds (last ds elements j))
  where
    last : (ds : List Point) (es : List (List Point)) → IsElement ds (es ++ cs ∷ []) → IsElement ds es ⊎ (cs ≡ ds)
    last ds [] (inl e) = inr e
    last ds [] (inr e) = absurd e
    last ds (fs ∷ es) (inl e) = inl (inl e)
    last ds (fs ∷ es) (inr j) = elim (last ds es j) [ inl k ↦ inl (inr k) | inr e ↦ inr e ]

    of_element : (ds : List Point) (es : List (List Point)) → AllByRecursion P (all_sides es) → IsElement ds es → AllByRecursion P (sides ds)
    of_element ds [] g e = absurd e
    of_element ds (fs ∷ es) g (inl e) = subst (λ (l : List Point). AllByRecursion P (sides l)) e (firsts (sides fs) (all_sides es) g)
      where
        firsts : (xs ys : List Edge) → AllByRecursion P (xs ++ ys) → AllByRecursion P xs
        firsts [] ys g = tt
        firsts (x ∷ xs) ys g = (g.0, firsts xs ys g.1)
    of_element ds (fs ∷ es) g (inr j) = of_element ds es (seconds (sides fs) (all_sides es) g) j
      where
        seconds : (xs ys : List Edge) → AllByRecursion P (xs ++ ys) → AllByRecursion P ys
        seconds [] ys g = g
        seconds (x ∷ xs) ys g = seconds xs ys g.1

    cases : (ds : List Point) → IsElement ds elements ⊎ (cs ≡ ds) → AllByRecursion P (sides ds)
    cases ds (inl k) = of_element ds elements h k
    cases ds (inr e) = subst (λ (l : List Point). AllByRecursion P (sides l)) e i

-- ---- front points, or not
pub front_point_or_not : (front : List Edge) (v : Point) → IsFrontPoint front v ⊎ AllByRecursion (IsNoEnd v) front
front_point_or_not [] v = inr tt
front_point_or_not (e ∷ front) v = elim (same_or_not v e.a) [
  | inl i ↦ inl (inl (inl i))
  | inr n ↦ elim (same_or_not v e.b) [
    | inl i ↦ inl (inl (inr i))
    | inr m ↦ elim (front_point_or_not front v) [ inl i ↦ inl (inr i) | inr h ↦ inr ((n, m), h) ]
  ]
]

-- what holds of both ends of a line holds at a front point
ends_at : (P : Point → Type 0) (v : Point) (front : List Edge) → AllByRecursion (λ e. P e.a × P e.b) front → IsFrontPoint front v → P v
ends_at P v [] h i = absurd i
ends_at P v (e ∷ front) h (inl (inl i)) = subst P (sym i) h.0.0
ends_at P v (e ∷ front) h (inl (inr i)) = subst P (sym i) h.0.1
ends_at P v (e ∷ front) h (inr i) = ends_at P v front h.1 i

-- a front point after gluing was one before, or is a corner of the element
pub in_corners : (P : Point → Type 0) (cs : List Point) → ((c : Point) → IsCorner c cs → P c) → AllByRecursion P cs
in_corners P [] f = tt
in_corners P (c ∷ cs) f = (f c (inl refl), in_corners P cs (λ d i. f d (inr i)))

in_front : (P : Point → Type 0) (front : List Edge) → ((v : Point) → IsFrontPoint front v → P v) → AllByRecursion (λ e. P e.a × P e.b) front
in_front P [] f = tt
in_front P (e ∷ front) f = ((f e.a (inl (inl refl)), f e.b (inl (inr refl))), in_front P front (λ v i. f v (inr i)))

pub was_front : (front : List Edge) (cs : List Point) (v : Point) → IsFrontPoint (glue front cs) v → IsFrontPoint front v ⊎ IsCorner v cs
was_front front cs v i = ends_at (λ v. IsFrontPoint front v ⊎ IsCorner v cs) v (glue front cs) (all_glue_sides (λ e. (IsFrontPoint front e.a ⊎ IsCorner e.a cs) × (IsFrontPoint front e.b ⊎ IsCorner e.b cs)) front (sides cs)
    (in_front (λ v. IsFrontPoint front v ⊎ IsCorner v cs) front (λ v j. inl j))
    (all_map (λ s. (IsFrontPoint front s.a ⊎ IsCorner s.a cs) × (IsFrontPoint front s.b ⊎ IsCorner s.b cs)) (λ s. (IsFrontPoint front s.b ⊎ IsCorner s.b cs) × (IsFrontPoint front s.a ⊎ IsCorner s.a cs)) (λ s x. (x.1, x.0)) (sides cs) (side_ends (λ v. IsFrontPoint front v ⊎ IsCorner v cs) cs (in_corners (λ v. IsFrontPoint front v ⊎ IsCorner v cs) cs (λ c j. inr j))))) i

off_front : (v : Point) (front : List Edge) → AllByRecursion (IsNoEnd v) front → AllByRecursion (λ e. ¬ (IsOnOpen v e.a e.b)) front → IsOff (whole v) front
off_front v front n o = all_both (IsNoEnd v) (λ e. ¬ (IsOnOpen v e.a e.b)) (λ e. ¬ (IsOnClosed (whole v) e.a e.b)) (λ e x y c. y (on_end_or_open v e.a e.b c x.0 x.1)) front n o

-- the element that has the corner
pub record HasCorner (v : Point) (elements : List (List Point)) : Type 0 where
  pub element : List Point
  pub among : IsElement element elements
  pub has : IsCorner v element

pub corner_of : (v : Point) (elements : List (List Point)) → IsElementCorner v elements → HasCorner v elements
corner_of v [] i = absurd i
corner_of v (cs ∷ elements) (inl i) = record { element = cs; among = inl refl; has = i }
corner_of v (cs ∷ elements) (inr i) = let r = corner_of v elements i in record { element = r.element; among = inr r.among; has = r.has }

corner_last : (v : Point) (elements : List (List Point)) (cs : List Point) → IsElementCorner v (elements ++ cs ∷ []) → IsElementCorner v elements ⊎ IsCorner v cs
corner_last v [] cs (inl i) = inr i
corner_last v [] cs (inr i) = absurd i
corner_last v (ds ∷ elements) cs (inl i) = inl (inl i)
corner_last v (ds ∷ elements) cs (inr i) = elim (corner_last v elements cs i) [ inl j ↦ inl (inr j) | inr j ↦ inr j ]

-- ---- the step
-- no place off the front is in an old element and in the new one, at least on their sides
abbrev pub AreAway : List Edge → List (List Point) → List Point → Type 0
AreAway front elements cs = (ds : List Point) (v : Point) → IsOff (whole v) front → IsElement ds elements → IsInClosure (whole v) ds → IsInClosure (whole v) cs → ⊥

pub no_hanging_by : (front : List Edge) (elements : List (List Point)) (cs : List Point) → AllByRecursion IsStrictlyConvex elements → AreAway front elements cs → MayBeGlued cs front → HasNoHanging front elements → HasNoHanging (glue front cs) (elements ++ cs ∷ [])
no_hanging_by front elements cs convex away m h = record { each = λ v u. sorted v u }
  where
    -- what is needed of each point: its place beside the old sides, the new sides and the old lines
    gathered : (v : Point) → AllByRecursion (λ s. ¬ (IsOnOpen v s.a s.b)) (all_sides elements) → AllByRecursion (λ s. ¬ (IsOnOpen v s.a s.b)) (sides cs) → AllByRecursion (λ e. ¬ (IsOnOpen v e.a e.b)) front → DoesNotHang (glue front cs) (elements ++ cs ∷ []) v
    gathered v old new lines = record {
      off_sides = new_sides (λ s. ¬ (IsOnOpen v s.a s.b)) elements cs old new;
      off_lines = all_glue_sides (λ e. ¬ (IsOnOpen v e.a e.b)) front (sides cs) lines (all_map (λ s. ¬ (IsOnOpen v s.a s.b)) (λ s. ¬ (IsOnOpen v (back s).a (back s).b)) (λ s n o. n (open_back v s.a s.b o)) (sides cs) new);
    }

    of_front : (v : Point) → IsFrontPoint front v → DoesNotHang (glue front cs) (elements ++ cs ∷ []) v
    of_front v i = gathered v (h.each v (inl i)).off_sides (ends_at (λ v. AllByRecursion (λ s. ¬ (IsOnOpen v s.a s.b)) (sides cs)) v front (all_map (IsClearOf cs) (λ e. AllByRecursion (λ s. ¬ (IsOnOpen e.a s.a s.b)) (sides cs) × AllByRecursion (λ s. ¬ (IsOnOpen e.b s.a s.b)) (sides cs))
        (λ e c. (all_map (λ s. ¬ (IsOnOpen e.a s.a s.b) × ¬ (IsOnOpen e.b s.a s.b)) (λ s. ¬ (IsOnOpen e.a s.a s.b)) (λ s x. x.0) (sides cs) c.ends_off_sides, all_map (λ s. ¬ (IsOnOpen e.a s.a s.b) × ¬ (IsOnOpen e.b s.a s.b)) (λ s. ¬ (IsOnOpen e.b s.a s.b)) (λ s x. x.1) (sides cs) c.ends_off_sides)) front m.clear) i) (h.each v (inl i)).off_lines

    of_old : (v : Point) → IsElementCorner v elements → AllByRecursion (IsNoEnd v) front → DoesNotHang (glue front cs) (elements ++ cs ∷ []) v
    of_old v i n = gathered v (h.each v (inr i)).off_sides (each_in (λ s. ¬ (IsOnOpen v s.a s.b)) (sides cs) (λ s j o. hung (corner_of v elements i) s j o)) (h.each v (inr i)).off_lines
      where
        hung : HasCorner v elements → (s : Edge) → IsIn s (sides cs) → IsOnOpen v s.a s.b → ⊥
        hung r s j o = away r.element v (off_front v front n (h.each v (inr i)).off_lines) r.among
            (corner_closure v r.element (element_convex r.element elements convex r.among) r.has) (side_closure v cs s m.turned j o)

    of_new : (v : Point) → IsCorner v cs → AllByRecursion (IsNoEnd v) front → DoesNotHang (glue front cs) (elements ++ cs ∷ []) v
    of_new v i n = gathered v (each_side (λ s. ¬ (IsOnOpen v s.a s.b)) elements (λ ds d. each_in (λ s. ¬ (IsOnOpen v s.a s.b)) (sides ds) (λ s j o. hung ds d s j o))) own lines
      where
        lines : AllByRecursion (λ e. ¬ (IsOnOpen v e.a e.b)) front
        lines = all_map (IsClearOf cs) (λ e. ¬ (IsOnOpen v e.a e.b)) (λ e c. at_corner (λ c. ¬ (IsOnOpen c e.a e.b)) v cs c.corners_off_line i) front m.clear

        own : AllByRecursion (λ s. ¬ (IsOnOpen v s.a s.b)) (sides cs)
        own = all_map (λ s. AllByRecursion (IsEndOrLeft s) cs) (λ s. ¬ (IsOnOpen v s.a s.b)) (λ s x o. not_open s v (at_corner (IsEndOrLeft s) v cs x i) o.straight o.not_a o.not_b) (sides cs)
            (by_corners cs m.turned (λ o u w ws f e. subst (λ (l : List Point). AllByRecursion (λ s. AllByRecursion (IsEndOrLeft s) l) (sides l)) (sym e) f.strict))

        hung : (ds : List Point) → IsElement ds elements → (s : Edge) → IsIn s (sides ds) → IsOnOpen v s.a s.b → ⊥
        hung ds d s j o = away ds v (off_front v front n lines) d (side_closure v ds s (element_convex ds elements convex d) j o) (corner_closure v cs m.turned i)

    other : (v : Point) → IsElementCorner v elements ⊎ IsCorner v cs → DoesNotHang (glue front cs) (elements ++ cs ∷ []) v
    other v i = elim (front_point_or_not front v) [
      | inl f ↦ of_front v f
      | inr n ↦ elim i [ inl j ↦ of_old v j n | inr j ↦ of_new v j n ]
    ]

    sorted : (v : Point) → IsUsed (glue front cs) (elements ++ cs ∷ []) v → DoesNotHang (glue front cs) (elements ++ cs ∷ []) v
    sorted v (inl i) = elim (was_front front cs v i) [ inl f ↦ of_front v f | inr j ↦ other v (inr j) ]
    sorted v (inr i) = other v (corner_last v elements cs i)

pub no_hanging : (boundary others front : List Edge) (elements : List (List Point)) (cs : List Point) → IsKept boundary others front elements → IsBoundary boundary others → MayBeGlued cs front → HasNoHanging front elements → HasNoHanging (glue front cs) (elements ++ cs ∷ [])
no_hanging boundary others front elements cs k b m h = no_hanging_by front elements cs k.convex (λ ds v o d i j. taken boundary others front elements ds cs (whole v) k b.at_most_once (record { positive = omega (arith, ints) }) o d i j m) m h

-- ---- a point that is used stays used, and the element's corners are
corner_new : (c : Point) (elements : List (List Point)) (cs : List Point) → IsCorner c cs → IsElementCorner c (elements ++ cs ∷ [])
corner_new c [] cs i = inl i
corner_new c (ds ∷ elements) cs i = inr (corner_new c elements cs i)

corner_still : (c : Point) (elements : List (List Point)) (cs : List Point) → IsElementCorner c elements → IsElementCorner c (elements ++ cs ∷ [])
corner_still c [] cs i = absurd i
corner_still c (ds ∷ elements) cs (inl i) = inl i
corner_still c (ds ∷ elements) cs (inr i) = inr (corner_still c elements cs i)

pub still_used : (front : List Edge) (elements : List (List Point)) (cs : List Point) (v : Point) → IsUsed front elements v ⊎ IsCorner v cs → IsUsed (glue front cs) (elements ++ cs ∷ []) v
still_used front elements cs v (inr i) = inr (corner_new v elements cs i)
still_used front elements cs v (inl (inr i)) = inr (corner_still v elements cs i)
still_used front elements cs v (inl (inl i)) = ends_at (IsUsed (glue front cs) (elements ++ cs ∷ [])) v front
    (unglued_sides (λ e. IsUsed (glue front cs) (elements ++ cs ∷ []) e.a × IsUsed (glue front cs) (elements ++ cs ∷ []) e.b) front (sides cs)
    (in_front (IsUsed (glue front cs) (elements ++ cs ∷ [])) (glue front cs) (λ v j. inl j))
    (side_ends (IsUsed (glue front cs) (elements ++ cs ∷ [])) cs (in_corners (IsUsed (glue front cs) (elements ++ cs ∷ [])) cs (λ c j. inr (corner_new c elements cs j))))) i
