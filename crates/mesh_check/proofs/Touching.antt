-- Two strictly convex polygons have a common rational point, off all edges of a list, where the second touches an open
-- side of the first, at a place v, and reaches to that side's left. It lies near v: v is strictly left of all other
-- sides of the first. Stands on grid_geom's Near.
use Rattle.std.proofs.Common.{◌≡◌, ◌⊎◌, List, [], ◌∷◌, ◌++◌, inl, inr, refl, sym, ◌∙◌, subst, arith}
use lib.IntN.{ℤ, pos, ◌+ℤ◌, ◌-ℤ◌, ◌*ℤ◌}
use lib.Signed.{◌<ℤ◌, ◌≤ℤ◌}
use Rattle.std.proofs.lemmas.Int.{ints}
use Rattle.std.specs.List.{AllByRecursion}
use Rattle.grid_geom.specs.declared.Point.{Point}
use Rattle.grid_geom.specs.declared.RatPoint.{RatPoint}
use Rattle.grid_geom.specs.declared.Edge.{Edge}
use Rattle.grid_geom.specs.Plane.{orient, orient_rat, IsRational}
use Rattle.grid_geom.specs.Line.{Line, side, whole, through, IsClear, clear_left, clear_right}
use Rattle.grid_geom.specs.Segment.{IsOnSegment}
use Rattle.grid_geom.specs.Sides.{IsOnOpen}
use Rattle.grid_geom.specs.Polygon.{sides, IsInPolygon, IsStrictlyConvex}
use Rattle.grid_geom.specs.Closed.{IsEdge}
use Rattle.grid_geom.proofs.Ring.{var, num, ◌⊕◌, ◌⊖◌, ◌⊗◌, ring}
use Rattle.grid_geom.proofs.Signs.{either, nn_mul, pos_mul, pos_factor, zero_factor}
use Rattle.grid_geom.proofs.Lines.{through_is, orient_whole, orient_back, same_place}
use Rattle.grid_geom.proofs.Means.{side_mean}
use Rattle.grid_geom.proofs.SharedPoint.{closed_segment}
use Rattle.grid_geom.proofs.SharedEnds.{open_closed}
use Rattle.grid_geom.proofs.Near.{IsAhead, within, towards, IsNear, near_ahead}
use Rattle.grid_geom.proofs.Polygon.{lines}
use Rattle.grid_geom.proofs.Convex.{lines_inside}
use Rattle.wind_law.specs.Centre.{centre}
use Rattle.wind_law.specs.Chains.{back}
use Rattle.wind_law.specs.Near.{IsInClosure, HaveCommonPoint}
use Rattle.wind_law.proofs.Corners.{IsEndOrLeft}
use Rattle.wind_law.proofs.Polygons.{weak_end}
use Rattle.wind_law.proofs.EdgeLines.{lines_directed}
use Rattle.wind_law.proofs.Inside.{centre_in_polygon, centre_rational}
use Rattle.wind_law.proofs.NearPoint.{off_edges}
use Rattle.wind_law.proofs.Overlap.{not_reversed, no_length}
use Rattle.state_law.specs.Free.{IsIn}
use Rattle.state_law.proofs.Lists.{all_map, all_append, all_first, all_second, at_edge}
use Rattle.state_law.proofs.SidesFree.{DoesSee, seen_sides}

-- ---- a point between the ends of a segment
-- where one weight is 0, the mean is the other end
only_last : (x s t u w : ℤ) → x *ℤ (s *ℤ pos 1 +ℤ t *ℤ pos 1) ≡ pos 1 *ℤ (s *ℤ u +ℤ t *ℤ w) → s ≡ pos 0 → pos 0 <ℤ t → x ≡ w
only_last x s t u w e f h = equal x w (zero_factor t (x -ℤ w) (ring (x ∷ t ∷ u ∷ w ∷ []) (var 1 ⊗ (var 0 ⊖ var 3)) (var 0 ⊗ (num (pos 0) ⊗ num (pos 1) ⊕ var 1 ⊗ num (pos 1)) ⊖ num (pos 1) ⊗ (num (pos 0) ⊗ var 2 ⊕ var 1 ⊗ var 3)) refl ∙ none (subst (λ (s : ℤ). x *ℤ (s *ℤ pos 1 +ℤ t *ℤ pos 1) ≡ pos 1 *ℤ (s *ℤ u +ℤ t *ℤ w)) f e)) h)
  where
    equal : (x w : ℤ) → x -ℤ w ≡ pos 0 → x ≡ w
    equal x w e = omega (arith, ints)

    none : {a b : ℤ} → a ≡ b → a -ℤ b ≡ pos 0
    none {a} {b} e = omega (arith, ints)

only_first : (x s t u w : ℤ) → x *ℤ (s *ℤ pos 1 +ℤ t *ℤ pos 1) ≡ pos 1 *ℤ (s *ℤ u +ℤ t *ℤ w) → t ≡ pos 0 → pos 0 <ℤ s → x ≡ u
only_first x s t u w e = only_last x t s w u (ring (x ∷ s ∷ t ∷ []) (var 0 ⊗ (var 2 ⊗ num (pos 1) ⊕ var 1 ⊗ num (pos 1))) (var 0 ⊗ (var 1 ⊗ num (pos 1) ⊕ var 2 ⊗ num (pos 1))) refl ∙ e ∙ ring (s ∷ t ∷ u ∷ w ∷ []) (num (pos 1) ⊗ (var 0 ⊗ var 2 ⊕ var 1 ⊗ var 3)) (num (pos 1) ⊗ (var 1 ⊗ var 3 ⊕ var 0 ⊗ var 2)) refl)

weights : (p a b : Point) (h : IsOnSegment (whole p) (whole a) (whole b)) → ¬ (p ≡ a) → ¬ (p ≡ b) → (pos 0 <ℤ h.of_p) × (pos 0 <ℤ h.of_q)
weights p a b h n m = (
  elim (either h.of_p (pos 0)) [
    | inr l ↦ l
    | inl l ↦ let z : h.of_p ≡ pos 0 = level h.of_p h.p_weight l in let t : pos 0 <ℤ h.of_q = rest h.of_p h.of_q z h.weighted in
        absurd (m (same_place p b (only_last p.x h.of_p h.of_q a.x b.x h.mean_x z t) (only_last p.y h.of_p h.of_q a.y b.y h.mean_y z t)))
  ],
  elim (either h.of_q (pos 0)) [
    | inr l ↦ l
    | inl l ↦ let z : h.of_q ≡ pos 0 = level h.of_q h.q_weight l in let t : pos 0 <ℤ h.of_p = other h.of_p h.of_q z h.weighted in
        absurd (n (same_place p a (only_first p.x h.of_p h.of_q a.x b.x h.mean_x z t) (only_first p.y h.of_p h.of_q a.y b.y h.mean_y z t)))
  ],
)
  where
    level : (s : ℤ) → pos 0 ≤ℤ s → s ≤ℤ pos 0 → s ≡ pos 0
    level s h l = omega (arith, ints)

    rest : (s t : ℤ) → s ≡ pos 0 → pos 0 <ℤ (s +ℤ t) → pos 0 <ℤ t
    rest s t e h = omega (arith, ints)

    other : (s t : ℤ) → t ≡ pos 0 → pos 0 <ℤ (s +ℤ t) → pos 0 <ℤ s
    other s t e h = omega (arith, ints)

-- a mean by positive weights of two values, neither negative and one positive
mean_above : (x s t u w : ℤ) → x *ℤ (s *ℤ pos 1 +ℤ t *ℤ pos 1) ≡ pos 1 *ℤ (s *ℤ u +ℤ t *ℤ w) → (pos 0 <ℤ s) × (pos 0 <ℤ t) → pos 0 ≤ℤ u → pos 0 ≤ℤ w → (pos 0 <ℤ u) ⊎ (pos 0 <ℤ w) → pos 0 <ℤ x
mean_above x s t u w e p hu hw n = pos_factor (s +ℤ t) x (subst (λ (z : ℤ). pos 0 <ℤ z) (sym (ring (x ∷ s ∷ t ∷ []) ((var 1 ⊕ var 2) ⊗ var 0) (var 0 ⊗ (var 1 ⊗ num (pos 1) ⊕ var 2 ⊗ num (pos 1))) refl ∙ e)) (some n)) (omega (arith, ints, p.0, p.1))
  where
    some : (pos 0 <ℤ u) ⊎ (pos 0 <ℤ w) → pos 0 <ℤ (pos 1 *ℤ (s *ℤ u +ℤ t *ℤ w))
    some (inl l) = omega (arith, ints, pos_mul s u p.0 l, nn_mul t w (omega (arith, ints, p.1)) hw)
    some (inr l) = omega (arith, ints, nn_mul s u (omega (arith, ints, p.0)) hu, pos_mul t w p.1 l)

value : (s : Edge) (p : Point) → side (through s.a s.b) (whole p) ≡ orient s.a s.b p
value s p = through_is s.a s.b (whole p) ∙ orient_whole s.a s.b p

-- it is strictly left of a line that has both ends on its closed left and one on its open left
open_left : (s e : Edge) (v : Point) → IsOnOpen v e.a e.b → pos 0 ≤ℤ orient s.a s.b e.a → pos 0 ≤ℤ orient s.a s.b e.b → (pos 0 <ℤ orient s.a s.b e.a) ⊎ (pos 0 <ℤ orient s.a s.b e.b) → pos 0 <ℤ side (through s.a s.b) (whole v)
open_left s e v o ha hb n = left (closed_segment e.a e.b (whole v) (omega (arith, ints)) (open_closed v e.a e.b o))
  where
    weak : {y z : ℤ} → y ≡ z → pos 0 ≤ℤ z → pos 0 ≤ℤ y
    weak {y} {z} e h = omega (arith, ints)

    strong : {y z : ℤ} → y ≡ z → pos 0 <ℤ z → pos 0 <ℤ y
    strong {y} {z} e h = omega (arith, ints)

    one : (pos 0 <ℤ orient s.a s.b e.a) ⊎ (pos 0 <ℤ orient s.a s.b e.b) → (pos 0 <ℤ side (through s.a s.b) (whole e.a)) ⊎ (pos 0 <ℤ side (through s.a s.b) (whole e.b))
    one (inl l) = inl (strong (value s e.a) l)
    one (inr l) = inr (strong (value s e.b) l)

    left : IsOnSegment (whole v) (whole e.a) (whole e.b) → pos 0 <ℤ side (through s.a s.b) (whole v)
    left h = mean_above (side (through s.a s.b) (whole v)) h.of_p h.of_q (side (through s.a s.b) (whole e.a)) (side (through s.a s.b) (whole e.b)) (side_mean (through s.a s.b) (whole v) (whole e.a) (whole e.b) h) (weights v e.a e.b h o.not_a o.not_b) (weak (value s e.a) ha) (weak (value s e.b) hb) (one n)

-- ---- the sides of the polygon, seen from v in an open side x towards a point w on the left of x
ahead : (x s : Edge) (v : Point) (z w : RatPoint) → IsOnOpen v x.a x.b → DoesSee z s x → pos 0 <ℤ orient_rat x.a x.b z → pos 0 <ℤ orient_rat x.a x.b w → IsAhead (whole v) w (through s.a s.b)
ahead x s v z w o h hx hw = from h.start h.finish
  where
    level : {y z : ℤ} → y ≡ z → z ≡ pos 0 → pos 0 ≤ℤ y
    level {y} {z} e f = omega (arith, ints)

    from : IsEndOrLeft s x.a → IsEndOrLeft s x.b → IsAhead (whole v) w (through s.a s.b)
    from (inr (inr l)) y = within (open_left s x v o (weak_end s x.a (inr (inr l))) (weak_end s x.b y) (inl l))
    from y (inr (inr l)) = within (open_left s x v o (weak_end s x.a y) (weak_end s x.b (inr (inr l))) (inr l))
    from (inl i) (inl j) = absurd (no_length x s.a z hx i j)
    from (inl i) (inr (inl j)) = towards (level (value s v) (subst (λ (c : Point). orient s.a c v ≡ pos 0) j (subst (λ (c : Point). orient c x.b v ≡ pos 0) i o.straight)))
        (subst (λ (m : ℤ). pos 0 <ℤ m) (sym (through_is s.a s.b w)) (subst (λ (c : Point). pos 0 <ℤ orient_rat s.a c w) j (subst (λ (c : Point). pos 0 <ℤ orient_rat c x.b w) i hw)))
    from (inr (inl i)) (inl j) = absurd (not_reversed s x z h.left hx i j)
    from (inr (inl i)) (inr (inl j)) = absurd (no_length x s.b z hx i j)

on_lines : (P : Line → Type 0) (es : List Edge) → AllByRecursion (λ e. P (through e.a e.b)) es → AllByRecursion P (lines es)
on_lines P [] h = tt
on_lines P (e ∷ es) h = (h.0, on_lines P es h.1)

ahead_sides : (cs : List Point) (x : Edge) (v : Point) (w : RatPoint) → IsStrictlyConvex cs → IsIn x (sides cs) → IsOnOpen v x.a x.b → pos 0 <ℤ orient_rat x.a x.b w → AllByRecursion (IsAhead (whole v) w) (lines (sides cs))
ahead_sides cs x v w c i o hw = on_lines (IsAhead (whole v) w) (sides cs) (all_map (λ s. AllByRecursion (DoesSee (centre cs) s) (sides cs)) (λ s. IsAhead (whole v) w (through s.a s.b))
    (λ s row. ahead x s v (centre cs) w o (at_edge (DoesSee (centre cs) s) x (sides cs) row i) (at_edge (λ s. pos 0 <ℤ orient_rat s.a s.b (centre cs)) x (sides cs) (centre_in_polygon cs c).left i) hw) (sides cs) (seen_sides cs c))

-- the sides of a polygon, seen from v in its closure towards a point w in it
towards_sides : (v w : RatPoint) (ss : List Edge) → AllByRecursion (λ e. pos 0 ≤ℤ orient_rat e.a e.b v) ss → AllByRecursion (λ e. pos 0 <ℤ orient_rat e.a e.b w) ss → AllByRecursion (IsAhead v w) (lines ss)
towards_sides v w [] h k = tt
towards_sides v w (s ∷ ss) h k = (towards (subst (λ (z : ℤ). pos 0 ≤ℤ z) (sym (through_is s.a s.b v)) h.0) (subst (λ (z : ℤ). pos 0 <ℤ z) (sym (through_is s.a s.b w)) k.0), towards_sides v w ss h.1 k.1)

-- ---- the polygon reaches to the left of an edge
pub record DoesReach (cs : List Point) (x : Edge) : Type 0 where
  pub at : RatPoint
  pub rational : IsRational at
  pub inside : IsInPolygon at cs
  pub left : pos 0 <ℤ orient_rat x.a x.b at

-- it does so on one side or the other
pub reaches : (cs : List Point) (x : Edge) → IsStrictlyConvex cs → IsEdge x → DoesReach cs x ⊎ DoesReach cs (back x)
reaches cs x c n = sorted (near_ahead (centre cs) (centre cs) (lines (sides cs)) (lines (x ∷ [])) (centre_rational cs c).positive (centre_rational cs c).positive (towards_sides (centre cs) (centre cs) (sides cs) weak (centre_in_polygon cs c).left) (lines_directed (x ∷ []) (n, tt)))
  where
    weak : AllByRecursion (λ e. pos 0 ≤ℤ orient_rat e.a e.b (centre cs)) (sides cs)
    weak = all_map (λ e. pos 0 <ℤ orient_rat e.a e.b (centre cs)) (λ e. pos 0 ≤ℤ orient_rat e.a e.b (centre cs)) (λ e h. at_least h) (sides cs) (centre_in_polygon cs c).left
      where
        at_least : {z : ℤ} → pos 0 <ℤ z → pos 0 ≤ℤ z
        at_least {z} h = omega (arith, ints)

    inside : (r : IsNear (centre cs) (lines (sides cs)) (lines (x ∷ []))) → IsInPolygon r.at cs
    inside r = record { left = lines_inside r.at (sides cs) r.inside }

    turned : {y z : ℤ} → z ≡ pos 0 -ℤ y → y <ℤ pos 0 → pos 0 <ℤ z
    turned {y} {z} e h = omega (arith, ints)

    sorted : IsNear (centre cs) (lines (sides cs)) (lines (x ∷ [])) → DoesReach cs x ⊎ DoesReach cs (back x)
    sorted r = beside r.clear.0
      where
        beside : IsClear (centre cs) r.at (through x.a x.b) → DoesReach cs x ⊎ DoesReach cs (back x)
        beside (clear_left f g) = inl (record { at = r.at; rational = record { positive = r.rational }; inside = inside r; left = subst (λ (z : ℤ). pos 0 <ℤ z) (through_is x.a x.b r.at) g })
        beside (clear_right f g) = inr (record { at = r.at; rational = record { positive = r.rational }; inside = inside r; left = turned (orient_back x.a x.b r.at) (subst (λ (z : ℤ). z <ℤ pos 0) (through_is x.a x.b r.at) g) })

-- ---- the common point
pub touching : (cs ds : List Point) (x : Edge) (v : Point) (es : List Edge) → IsStrictlyConvex cs → IsIn x (sides cs) → IsOnOpen v x.a x.b → IsInClosure (whole v) ds → DoesReach ds x → AllByRecursion IsEdge es → HaveCommonPoint cs ds es
touching cs ds x v es c i o u r n = result (near_ahead (whole v) r.at (lines (sides cs) ++ lines (sides ds)) (lines es) (omega (arith, ints)) r.rational.positive
    (all_append (IsAhead (whole v) r.at) (lines (sides cs)) (lines (sides ds)) (ahead_sides cs x v r.at c i o r.left) (towards_sides (whole v) r.at (sides ds) u.left r.inside.left)) (lines_directed es n))
  where
    result : IsNear (whole v) (lines (sides cs) ++ lines (sides ds)) (lines es) → HaveCommonPoint cs ds es
    result r = record {
      at = r.at;
      rational = record { positive = r.rational };
      in_first = record { left = lines_inside r.at (sides cs) (all_first (λ l. pos 0 <ℤ side l r.at) (lines (sides cs)) (lines (sides ds)) r.inside) };
      in_second = record { left = lines_inside r.at (sides ds) (all_second (λ l. pos 0 <ℤ side l r.at) (lines (sides cs)) (lines (sides ds)) r.inside) };
      off = off_edges (whole v) r.at es r.clear;
    }
