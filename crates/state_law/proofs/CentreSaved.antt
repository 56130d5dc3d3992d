-- Where an element meets clauses 1 and 2 of gluing and one of its sides is a front line, the front winds once round its centre.
-- Near the middle v of that side there are a point q right of it and a point p left of it, in the element, both off all edges. From q to p the winding number rises by 1, and both are 0 or 1.
-- The front lines don't tangle, so v is on no other: a line parts it from each. Stands on wind_law's JumpNear, and on Parted and SidesFree.
use Prim.Native.Nat.{ℕ, ◌≤◌}
use lib.IntN.{ℤ, pos, ◌+ℤ◌, ◌-ℤ◌, ◌*ℤ◌}
use lib.Signed.{◌<ℤ◌, ◌≤ℤ◌}
use mathlib.Core.Path.{◌≡◌, refl, sym, ap, ◌∙◌, subst}
use mathlib.Core.List.{List, [], ◌∷◌, ◌++◌}
use mathlib.Core.Logic.{◌⊎◌, inl, inr}
use native.Mathlib.Omega.{arith}
use Rattle.std.proofs.lemmas.Int.{ints, clamps}
use Rattle.std.specs.Int.{int_max, int_min}
use Rattle.std.specs.List.{AllByRecursion}
use Rattle.grid_geom.specs.declared.Point.{Point}
use Rattle.grid_geom.specs.declared.RatPoint.{RatPoint}
use Rattle.grid_geom.specs.declared.Edge.{Edge}
use Rattle.grid_geom.specs.Plane.{orient, orient_rat, IsRational}
use Rattle.grid_geom.specs.Line.{Line, side, whole, through}
use Rattle.grid_geom.specs.Sides.{IsOnClosed, swapped_ends}
use Rattle.grid_geom.specs.Sharing.{IsShared, IsAt, IsEnd, ShareAtMostAnEnd, nothing, one_end}
use Rattle.grid_geom.specs.Polygon.{sides, IsStrictlyConvex, IsInPolygon, IsApart}
use Rattle.grid_geom.specs.Winding.{wind}
use Rattle.grid_geom.specs.Closed.{IsClosed, IsEdge, IsOff}
use Rattle.grid_geom.proofs.Ring.{var, num, ◌⊕◌, ◌⊖◌, ◌⊗◌, ring}
use Rattle.grid_geom.proofs.Lines.{through_is, orient_back, same_place}
use Rattle.grid_geom.proofs.Meeting.{beyond, squared, squared_pos}
use Rattle.grid_geom.proofs.SharedEnds.{shares_tangle}
use Rattle.grid_geom.proofs.Near.{IsAhead, within, towards, IsNear, near_ahead}
use Rattle.grid_geom.proofs.Polygon.{lines}
use Rattle.grid_geom.proofs.Convex.{lines_inside}
use Rattle.wind_law.specs.Chains.{edge, back, times}
use Rattle.wind_law.specs.Centre.{centre}
use Rattle.wind_law.proofs.Corners.{IsEndOrLeft}
use Rattle.wind_law.proofs.Polygons.{weak_end}
use Rattle.wind_law.proofs.EdgeLines.{lines_directed}
use Rattle.wind_law.proofs.Inside.{alike_inside, centre_in_polygon, centre_rational}
use Rattle.wind_law.proofs.NearPoint.{off_edges}
use Rattle.wind_law.proofs.JumpNear as jumps
use Rattle.wind_law.proofs.JumpNear.{IsBeside, IsHeld, same, held, IsAcross, jump_near}
use Rattle.state_law.specs.Free.{AreFreeOf, DoEdgesTangle, IsIn}
use Rattle.state_law.specs.Kept.{all_sides, IsNoneOrOne, IsOffState, IsKept}
use Rattle.state_law.proofs.Lists.{all_map, all_append, all_first, all_second, at_edge}
use Rattle.state_law.proofs.GluedFree.{others_free}
use Rattle.state_law.proofs.SidesFree.{DoesSee, seen_sides, no_length, not_reversed, sides_edges}
use Rattle.state_law.proofs.Untangled.{tangle_turned, tangle_back_first}
use Rattle.state_law.proofs.Counts.{same_true, times_none, times_some}
use Rattle.state_law.proofs.Parted.{IsPartedFrom, on_or_parted}

-- ---- the middle of an edge
abbrev pub middle : Edge → RatPoint
middle e = record { x = e.a.x +ℤ e.b.x; y = e.a.y +ℤ e.b.y; k = pos 2 }

pub middle_rational : (e : Edge) → IsRational (middle e)
middle_rational e = record { positive = omega (arith, ints) }

side_middle : (c d : Point) (e : Edge) → side (through c d) (middle e) ≡ orient c d e.a +ℤ orient c d e.b
side_middle c d e = ring (c.x ∷ c.y ∷ d.x ∷ d.y ∷ e.a.x ∷ e.a.y ∷ e.b.x ∷ e.b.y ∷ [])
    ((var 1 ⊖ var 3) ⊗ (var 4 ⊕ var 6) ⊕ (var 2 ⊖ var 0) ⊗ (var 5 ⊕ var 7) ⊕ (var 0 ⊗ var 3 ⊖ var 1 ⊗ var 2) ⊗ num (pos 2))
    (((var 2 ⊖ var 0) ⊗ (var 5 ⊖ var 1) ⊖ (var 3 ⊖ var 1) ⊗ (var 4 ⊖ var 0)) ⊕ ((var 2 ⊖ var 0) ⊗ (var 7 ⊖ var 1) ⊖ (var 3 ⊖ var 1) ⊗ (var 6 ⊖ var 0))) refl

pub middle_straight : (e : Edge) → orient_rat e.a e.b (middle e) ≡ pos 0
middle_straight e = ring (e.a.x ∷ e.a.y ∷ e.b.x ∷ e.b.y ∷ [])
    ((var 2 ⊖ var 0) ⊗ ((var 1 ⊕ var 3) ⊖ var 1 ⊗ num (pos 2)) ⊖ (var 3 ⊖ var 1) ⊗ ((var 0 ⊕ var 2) ⊖ var 0 ⊗ num (pos 2))) (num (pos 0)) refl

pub middle_before : (a b : Point) → side (beyond a b) (middle (edge a b)) ≡ pos 0 -ℤ squared a b
middle_before a b = ring (a.x ∷ a.y ∷ b.x ∷ b.y ∷ [])
    ((var 2 ⊖ var 0) ⊗ (var 0 ⊕ var 2) ⊕ (var 3 ⊖ var 1) ⊗ (var 1 ⊕ var 3) ⊕ (num (pos 0) ⊖ (var 2 ⊖ var 0) ⊗ var 2 ⊖ (var 3 ⊖ var 1) ⊗ var 3) ⊗ num (pos 2))
    (num (pos 0) ⊖ ((var 2 ⊖ var 0) ⊗ (var 2 ⊖ var 0) ⊕ (var 3 ⊖ var 1) ⊗ (var 3 ⊖ var 1))) refl

pub middle_after : (a b : Point) → side (beyond b a) (middle (edge a b)) ≡ pos 0 -ℤ squared a b
middle_after a b = ring (a.x ∷ a.y ∷ b.x ∷ b.y ∷ [])
    ((var 0 ⊖ var 2) ⊗ (var 0 ⊕ var 2) ⊕ (var 1 ⊖ var 3) ⊗ (var 1 ⊕ var 3) ⊕ (num (pos 0) ⊖ (var 0 ⊖ var 2) ⊗ var 0 ⊖ (var 1 ⊖ var 3) ⊗ var 1) ⊗ num (pos 2))
    (num (pos 0) ⊖ ((var 2 ⊖ var 0) ⊗ (var 2 ⊖ var 0) ⊕ (var 3 ⊖ var 1) ⊗ (var 3 ⊖ var 1))) refl

middle_closed : (e : Edge) → IsOnClosed (middle e) e.a e.b
middle_closed e = record {
  straight = middle_straight e;
  right_of_least = least e.a.x e.b.x;
  left_of_greatest = greatest e.a.x e.b.x;
  above_least = least e.a.y e.b.y;
  below_greatest = greatest e.a.y e.b.y;
}
  where
    least : (u w : ℤ) → (int_min u w *ℤ pos 2) ≤ℤ (u +ℤ w)
    least u w = omega (arith, ints, clamps)

    greatest : (u w : ℤ) → (u +ℤ w) ≤ℤ (int_max u w *ℤ pos 2)
    greatest u w = omega (arith, ints, clamps)

pub middle_no_end : (e : Edge) (p : Point) → IsEdge e → IsAt (middle e) p → IsEnd p e.a e.b → ⊥
middle_no_end e p n h (inl i) = n (same_place e.a e.b (first h.x_is (ap (λ (z : Point). z.x) i)) (first h.y_is (ap (λ (z : Point). z.y) i)))
  where
    first : {u w z : ℤ} → u +ℤ w ≡ z *ℤ pos 2 → z ≡ u → u ≡ w
    first {u} {w} {z} f g = omega (arith, ints)
middle_no_end e p n h (inr i) = n (same_place e.a e.b (second h.x_is (ap (λ (z : Point). z.x) i)) (second h.y_is (ap (λ (z : Point). z.y) i)))
  where
    second : {u w z : ℤ} → u +ℤ w ≡ z *ℤ pos 2 → z ≡ w → u ≡ w
    second {u} {w} {z} f g = omega (arith, ints)

-- ---- the middle seen from the element's sides
some_left : {s x y : ℤ} → s ≡ x +ℤ y → pos 0 ≤ℤ x → pos 0 ≤ℤ y → (pos 0 <ℤ x) ⊎ (pos 0 <ℤ y) → pos 0 <ℤ s
some_left {s} {x} {y} e h i (inl n) = omega (arith, ints)
some_left {s} {x} {y} e h i (inr n) = omega (arith, ints)

ahead : (e s : Edge) (z : RatPoint) → pos 0 <ℤ orient_rat s.a s.b z → pos 0 <ℤ orient_rat e.a e.b z → IsEndOrLeft s e.a → IsEndOrLeft s e.b → IsAhead (middle e) z (through s.a s.b)
ahead e s z hs he x (inr (inr l)) = within (some_left (side_middle s.a s.b e) (weak_end s e.a x) (weak_end s e.b (inr (inr l))) (inr l))
ahead e s z hs he (inr (inr l)) y = within (some_left (side_middle s.a s.b e) (weak_end s e.a (inr (inr l))) (weak_end s e.b y) (inl l))
ahead e s z hs he (inl i) (inl j) = absurd (no_length s.a e z he i j)
ahead e s z hs he (inl i) (inr (inl j)) = towards (level (side_middle s.a s.b e) (weak_end s e.a (inl i)) (weak_end s e.b (inr (inl j)))) (subst (λ (m : ℤ). pos 0 <ℤ m) (sym (through_is s.a s.b z)) hs)
  where
    level : {s x y : ℤ} → s ≡ x +ℤ y → pos 0 ≤ℤ x → pos 0 ≤ℤ y → pos 0 ≤ℤ s
    level {s} {x} {y} e h i = omega (arith, ints)
ahead e s z hs he (inr (inl i)) (inl j) = absurd (not_reversed s e z hs he i j)
ahead e s z hs he (inr (inl i)) (inr (inl j)) = absurd (no_length s.b e z he i j)

ahead_all : (e : Edge) (z : RatPoint) (ss : List Edge) → pos 0 <ℤ orient_rat e.a e.b z → AllByRecursion (λ s. DoesSee z s e) ss → AllByRecursion (IsAhead (middle e) z) (lines ss)
ahead_all e z [] he h = tt
ahead_all e z (s ∷ ss) he h = (ahead e s z h.0.left he h.0.start h.0.finish, ahead_all e z ss he h.1)

-- ---- the lines that part the middle from the other front lines
record AreHolding (v : RatPoint) (a b : Point) (es : List Edge) : Type 0 where
  all : List Line
  left : AllByRecursion (λ l. pos 0 <ℤ side l v) all
  holds : (q : RatPoint) → AllByRecursion (λ l. pos 0 <ℤ side l q) all → AllByRecursion (IsHeld v q a b) es

-- the middle of a front line is on no other
pub not_on : (e f : Edge) → IsEdge e → IsEdge f → ¬ (DoEdgesTangle e f) → IsOnClosed (middle e) f.a f.b → ⊥
not_on e f n m t o = shared (shares_tangle e.a e.b f.a f.b n m t)
  where
    both : IsShared (middle e) e.a e.b f.a f.b
    both = record { rational = middle_rational e; on_first = middle_closed e; on_second = o }

    shared : ShareAtMostAnEnd e.a e.b f.a f.b → ⊥
    shared (nothing h) = h (middle e) both
    shared (one_end p i j h) = middle_no_end e p n (h (middle e) both) i

-- an edge is e, or e reversed, or does not tangle with e
abbrev pub IsApartOrSame : Edge → Edge → Type 0
IsApartOrSame e f = (f ≡ e) ⊎ ((f ≡ back e) ⊎ ¬ (DoEdgesTangle e f))

holding : (e : Edge) (es : List Edge) → IsEdge e → AllByRecursion IsEdge es → AllByRecursion (IsApartOrSame e) es → AreHolding (middle e) e.a e.b es
holding e [] n ns h = record { all = []; left = tt; holds = λ q i. tt }
holding e (f ∷ es) n ns h = elim h.0 [
  | inl i ↦ here i (holding e es n ns.1 h.1)
  | inr r ↦ elim r [
    | inl i ↦ reversed i (holding e es n ns.1 h.1)
    | inr t ↦ elim (on_or_parted (middle e) f ns.0 (middle_rational e)) [
      | inl o ↦ absurd (not_on e f n ns.0 t o)
      | inr p ↦ there p (holding e es n ns.1 h.1)
    ]
  ]
]
  where
    here : f ≡ e → AreHolding (middle e) e.a e.b es → AreHolding (middle e) e.a e.b (f ∷ es)
    here i r = record { all = r.all; left = r.left; holds = λ q g. (same (same_true f (edge e.a e.b) i), r.holds q g) }

    reversed : f ≡ back e → AreHolding (middle e) e.a e.b es → AreHolding (middle e) e.a e.b (f ∷ es)
    reversed i r = record { all = r.all; left = r.left; holds = λ q g. (jumps.back (same_true f (edge e.b e.a) i), r.holds q g) }

    there : IsPartedFrom (middle e) f → AreHolding (middle e) e.a e.b es → AreHolding (middle e) e.a e.b (f ∷ es)
    there p r = record {
      all = p.line ∷ r.all;
      left = (p.v_left, r.left);
      holds = λ q g. (held p.line p.start_right p.end_right p.v_left g.0, r.holds q g.1);
    }

-- ---- a point right of the edge
right_of : Edge → RatPoint
right_of e = whole (record { x = e.a.x +ℤ (e.b.y -ℤ e.a.y); y = e.a.y -ℤ (e.b.x -ℤ e.a.x) })

right_of_is : (e : Edge) → side (through e.b e.a) (right_of e) ≡ squared e.a e.b
unfolding right_of
right_of_is e = ring (e.a.x ∷ e.a.y ∷ e.b.x ∷ e.b.y ∷ [])
    ((var 3 ⊖ var 1) ⊗ (var 0 ⊕ (var 3 ⊖ var 1)) ⊕ (var 0 ⊖ var 2) ⊗ (var 1 ⊖ (var 2 ⊖ var 0)) ⊕ (var 2 ⊗ var 1 ⊖ var 3 ⊗ var 0) ⊗ num (pos 1))
    ((var 2 ⊖ var 0) ⊗ (var 2 ⊖ var 0) ⊕ (var 3 ⊖ var 1) ⊗ (var 3 ⊖ var 1)) refl

right_rational : (e : Edge) → pos 0 <ℤ (right_of e).k
unfolding right_of
right_rational e = omega (arith, ints)

middle_behind : (e : Edge) → pos 0 ≤ℤ side (through e.b e.a) (middle e)
middle_behind e = level (ring (e.a.x ∷ e.a.y ∷ e.b.x ∷ e.b.y ∷ []) ((var 3 ⊖ var 1) ⊗ (var 0 ⊕ var 2) ⊕ (var 0 ⊖ var 2) ⊗ (var 1 ⊕ var 3) ⊕ (var 2 ⊗ var 1 ⊖ var 3 ⊗ var 0) ⊗ num (pos 2)) (num (pos 0)) refl)
  where
    level : {z : ℤ} → z ≡ pos 0 → pos 0 ≤ℤ z
    level {z} e = omega (arith, ints)

within_all : (v w : RatPoint) (ls : List Line) → AllByRecursion (λ l. pos 0 <ℤ side l v) ls → AllByRecursion (IsAhead v w) ls
within_all v w [] h = tt
within_all v w (l ∷ ls) h = (within h.0, within_all v w ls h.1)

-- ---- the jump at the middle of a side of a polygon
-- a point q right of the side and a point p in the polygon, both off the edges of a list, with the jump of the winding number between them
pub record HasJump (cs : List Point) (e : Edge) (es all_edges : List Edge) : Type 0 where
  pub p : RatPoint
  pub p_rational : IsRational p
  pub p_inside : IsInPolygon p cs
  pub p_off : IsOff p all_edges
  pub q : RatPoint
  pub q_rational : IsRational q
  pub q_off : IsOff q all_edges
  pub jumps : wind p es -ℤ wind q es ≡ pos (times e es) -ℤ pos (times (back e) es)

pub jump_middle : (cs : List Point) (e : Edge) (es all_edges : List Edge) → IsStrictlyConvex cs → IsIn e (sides cs) → AllByRecursion IsEdge es → IsClosed es → AllByRecursion (IsApartOrSame e) es → AllByRecursion IsEdge all_edges → HasJump cs e es all_edges
jump_middle cs e es all_edges v s ns cl rest all_edged = right (near_ahead (middle e) (right_of e) (through e.b e.a ∷ h.all) (lines all_edges) (middle_rational e).positive (right_rational e)
    (towards (middle_behind e) (subst (λ (z : ℤ). pos 0 <ℤ z) (sym (right_of_is e)) (squared_pos e.a e.b n)), within_all (middle e) (right_of e) h.all h.left) (lines_directed all_edges all_edged))
  where
    n : IsEdge e
    n = at_edge IsEdge e (sides cs) (sides_edges cs v) s

    h : AreHolding (middle e) e.a e.b es
    h = holding e es n ns rest

    z_left : pos 0 <ℤ orient_rat e.a e.b (centre cs)
    z_left = at_edge (λ s. pos 0 <ℤ orient_rat s.a s.b (centre cs)) e (sides cs) (centre_in_polygon cs v).left s

    left : (q : RatPoint) → IsRational q → IsBeside (middle e) q e.a e.b → AllByRecursion (λ l. pos 0 <ℤ side l q) h.all → IsOff q all_edges → HasJump cs e es all_edges
    left q kq b g o = across (jump_near (middle e) q (centre cs) e.a e.b es (lines (sides cs)) (lines all_edges) cl (middle_rational e) kq (centre_rational cs v) b z_left (h.holds q g)
        (ahead_all e (centre cs) (sides cs) z_left (all_map (λ s. AllByRecursion (DoesSee (centre cs) s) (sides cs)) (λ s. DoesSee (centre cs) s e) (λ u r. at_edge (DoesSee (centre cs) u) e (sides cs) r s) (sides cs) (seen_sides cs v))) (lines_directed all_edges all_edged))
      where
        across : IsAcross (middle e) q e.a e.b (lines (sides cs)) (lines all_edges) es → HasJump cs e es all_edges
        across r = record {
          p = r.at;
          p_rational = r.rational;
          p_inside = record { left = lines_inside r.at (sides cs) r.inside };
          p_off = off_edges (middle e) r.at all_edges r.clear;
          q = q;
          q_rational = kq;
          q_off = o;
          jumps = r.jumps;
        }

    right : IsNear (middle e) (through e.b e.a ∷ h.all) (lines all_edges) → HasJump cs e es all_edges
    right r = left r.at (record { positive = r.rational }) (record {
      different = n;
      straight = middle_straight e;
      before_b = below (middle_before e.a e.b) (squared_pos e.a e.b n);
      after_a = below (middle_after e.a e.b) (squared_pos e.a e.b n);
      q_right = turned (through_is e.b e.a r.at) (orient_back e.a e.b r.at) r.inside.0;
    }) r.inside.1 (off_edges (middle e) r.at all_edges r.clear)
      where
        below : {x y : ℤ} → x ≡ pos 0 -ℤ y → pos 0 <ℤ y → x <ℤ pos 0
        below {x} {y} e h = omega (arith, ints)

        turned : {x y z : ℤ} → x ≡ y → y ≡ pos 0 -ℤ z → pos 0 <ℤ x → z <ℤ pos 0
        turned {x} {y} {z} e f h = omega (arith, ints)

-- the same with points on both sides near the middle: lines that have the middle on their left have both
pub record IsAround (e : Edge) (ls : List Line) (es all_edges : List Edge) : Type 0 where
  pub p : RatPoint
  pub p_rational : IsRational p
  pub p_near : AllByRecursion (λ l. pos 0 <ℤ side l p) ls
  pub p_off : IsOff p all_edges
  pub q : RatPoint
  pub q_rational : IsRational q
  pub q_near : AllByRecursion (λ l. pos 0 <ℤ side l q) ls
  pub q_off : IsOff q all_edges
  pub jumps : wind p es -ℤ wind q es ≡ pos (times e es) -ℤ pos (times (back e) es)

left_of : (e : Edge) → IsEdge e → pos 0 <ℤ orient_rat e.a e.b (right_of (back e))
left_of e n = subst (λ (z : ℤ). pos 0 <ℤ z) (through_is e.a e.b (right_of (back e))) (subst (λ (z : ℤ). pos 0 <ℤ z) (sym (right_of_is (back e))) (squared_pos e.b e.a (λ i. n (sym i))))

pub jump_around : (e : Edge) (ls : List Line) (es all_edges : List Edge) → IsEdge e → AllByRecursion (λ l. pos 0 <ℤ side l (middle e)) ls → AllByRecursion IsEdge es → IsClosed es → AllByRecursion (IsApartOrSame e) es → AllByRecursion IsEdge all_edges → IsAround e ls es all_edges
jump_around e ls es all_edges n on ns cl rest all_edged = right (near_ahead (middle e) (right_of e) (through e.b e.a ∷ (h.all ++ ls)) (lines all_edges) (middle_rational e).positive (right_rational e)
    (towards (middle_behind e) (subst (λ (z : ℤ). pos 0 <ℤ z) (sym (right_of_is e)) (squared_pos e.a e.b n)), all_append (IsAhead (middle e) (right_of e)) h.all ls (within_all (middle e) (right_of e) h.all h.left) (within_all (middle e) (right_of e) ls on)) (lines_directed all_edges all_edged))
  where
    h : AreHolding (middle e) e.a e.b es
    h = holding e es n ns rest

    left : (q : RatPoint) → IsRational q → IsBeside (middle e) q e.a e.b → AllByRecursion (λ l. pos 0 <ℤ side l q) h.all → AllByRecursion (λ l. pos 0 <ℤ side l q) ls → IsOff q all_edges → IsAround e ls es all_edges
    left q kq b g near o = across (jump_near (middle e) q (right_of (back e)) e.a e.b es ls (lines all_edges) cl (middle_rational e) kq (record { positive = right_rational (back e) }) b (left_of e n) (h.holds q g) (within_all (middle e) (right_of (back e)) ls on) (lines_directed all_edges all_edged))
      where
        across : IsAcross (middle e) q e.a e.b ls (lines all_edges) es → IsAround e ls es all_edges
        across r = record {
          p = r.at;
          p_rational = r.rational;
          p_near = r.inside;
          p_off = off_edges (middle e) r.at all_edges r.clear;
          q = q;
          q_rational = kq;
          q_near = near;
          q_off = o;
          jumps = r.jumps;
        }

    right : IsNear (middle e) (through e.b e.a ∷ (h.all ++ ls)) (lines all_edges) → IsAround e ls es all_edges
    right r = left r.at (record { positive = r.rational }) (record {
      different = n;
      straight = middle_straight e;
      before_b = below (middle_before e.a e.b) (squared_pos e.a e.b n);
      after_a = below (middle_after e.a e.b) (squared_pos e.a e.b n);
      q_right = turned (through_is e.b e.a r.at) (orient_back e.a e.b r.at) r.inside.0;
    }) (all_first (λ l. pos 0 <ℤ side l r.at) h.all ls r.inside.1) (all_second (λ l. pos 0 <ℤ side l r.at) h.all ls r.inside.1) (off_edges (middle e) r.at all_edges r.clear)
      where
        below : {x y : ℤ} → x ≡ pos 0 -ℤ y → pos 0 <ℤ y → x <ℤ pos 0
        below {x} {y} e h = omega (arith, ints)

        turned : {x y z : ℤ} → x ≡ y → y ≡ pos 0 -ℤ z → pos 0 <ℤ x → z <ℤ pos 0
        turned {x} {y} {z} e f h = omega (arith, ints)

-- ---- in an untangled list
no_reverse : (e f : Edge) → IsEdge e → (f ≡ e) ⊎ ¬ (DoEdgesTangle e f) → f ≡ back e → ⊥
no_reverse e f n (inl j) i = n (ap (λ (z : Edge). z.a) (sym j ∙ i))
no_reverse e f n (inr t) i = t (swapped_ends (ap (λ (z : Edge). z.b) (sym i)) (ap (λ (z : Edge). z.a) (sym i)))

pub others_of : (e : Edge) (es : List Edge) → AreFreeOf DoEdgesTangle es → IsIn e es → AllByRecursion (λ f. (f ≡ e) ⊎ ¬ (DoEdgesTangle e f)) es
others_of e es u i = others_free DoEdgesTangle (λ e f t. tangle_turned e.a e.b f.a f.b t) e es u i

pub apart_or_same : (e : Edge) (es : List Edge) → AreFreeOf DoEdgesTangle es → IsIn e es → AllByRecursion (IsApartOrSame e) es
apart_or_same e es u i = all_map (λ f. (f ≡ e) ⊎ ¬ (DoEdgesTangle e f)) (IsApartOrSame e) (λ f z. elim z [ inl j ↦ inl j | inr t ↦ inr (inr t) ]) es (others_of e es u i)

-- the same where e reversed is in the list
pub apart_or_back : (e : Edge) (es : List Edge) → AreFreeOf DoEdgesTangle es → IsIn (back e) es → AllByRecursion (IsApartOrSame e) es
apart_or_back e es u i = all_map (λ f. (f ≡ back e) ⊎ ¬ (DoEdgesTangle (back e) f)) (IsApartOrSame e) (λ f z. elim z [ inl j ↦ inr (inl j) | inr t ↦ inr (inr (λ r. t (tangle_back_first e f r))) ]) es (others_of (back e) es u i)

pub none_reversed : (e : Edge) (es : List Edge) → IsEdge e → AreFreeOf DoEdgesTangle es → IsIn e es → times (back e) es ≡ 0
none_reversed e es n u i = times_none (back e) es (all_map (λ f. (f ≡ e) ⊎ ¬ (DoEdgesTangle e f)) (λ f. ¬ (f ≡ back e)) (λ f x j. no_reverse e f n x j) es (others_of e es u i))

-- ---- the law
-- off all edges, and off each part
pub parts_off : (others front : List Edge) (elements : List (List Point)) (q : RatPoint) → IsOff q (others ++ (front ++ all_sides elements)) → IsOffState others front elements q
parts_off others front elements q h = record {
  off_others = all_first (λ e. ¬ (IsOnClosed q e.a e.b)) others (front ++ all_sides elements) h;
  off_front = all_first (λ e. ¬ (IsOnClosed q e.a e.b)) front (all_sides elements) (all_second (λ e. ¬ (IsOnClosed q e.a e.b)) others (front ++ all_sides elements) h);
  off_elements = all_second (λ e. ¬ (IsOnClosed q e.a e.b)) front (all_sides elements) (all_second (λ e. ¬ (IsOnClosed q e.a e.b)) others (front ++ all_sides elements) h);
}

all_edges : (elements : List (List Point)) → AllByRecursion IsStrictlyConvex elements → AllByRecursion IsEdge (all_sides elements)
all_edges [] h = tt
all_edges (cs ∷ elements) h = all_append IsEdge (sides cs) (all_sides elements) (sides_edges cs h.0) (all_edges elements h.1)

pub state_edges : (boundary others front : List Edge) (elements : List (List Point)) → IsKept boundary others front elements → AllByRecursion IsEdge (others ++ (front ++ all_sides elements))
state_edges boundary others front elements k = all_append IsEdge others (front ++ all_sides elements) k.other_edges (all_append IsEdge front (all_sides elements) k.edges (all_edges elements k.convex))

risen : (p q : ℤ) (m n : ℕ) → p -ℤ q ≡ pos m -ℤ pos n → 1 ≤ m → n ≡ 0 → IsNoneOrOne q → IsNoneOrOne p → p ≡ pos 1
risen p q m n e h i (inl a) (inl b) = absurd (omega (arith, ints))
risen p q m n e h i (inl a) (inr b) = b
risen p q m n e h i (inr a) (inl b) = absurd (omega (arith, ints))
risen p q m n e h i (inr a) (inr b) = b

-- a point of the polygon, off all edges, round which the front winds once
pub record HasOneNear (others front : List Edge) (elements : List (List Point)) (cs : List Point) : Type 0 where
  pub at : RatPoint
  pub rational : IsRational at
  pub inside : IsInPolygon at cs
  pub off : IsOffState others front elements at
  pub once : wind at front ≡ pos 1

-- a polygon that has a front line as a side has such a point
pub one_near : (boundary others front : List Edge) (elements : List (List Point)) (cs : List Point) (e : Edge) → IsKept boundary others front elements → IsStrictlyConvex cs → IsIn e (sides cs) → IsIn e front → HasOneNear others front elements cs
one_near boundary others front elements cs e k v s f = found (jump_middle cs e front (others ++ (front ++ all_sides elements)) v s k.edges k.closed (apart_or_same e front k.untangled f) (state_edges boundary others front elements k))
  where
    found : HasJump cs e front (others ++ (front ++ all_sides elements)) → HasOneNear others front elements cs
    found r = record {
      at = r.p;
      rational = r.p_rational;
      inside = r.p_inside;
      off = parts_off others front elements r.p r.p_off;
      once = risen (wind r.p front) (wind r.q front) (times e front) (times (back e) front) r.jumps (times_some e front f) (none_reversed e front (at_edge IsEdge e front k.edges f) k.untangled f)
          (k.single r.q r.q_rational (parts_off others front elements r.q r.q_off)) (k.single r.p r.p_rational (parts_off others front elements r.p r.p_off));
    }

pub centre_saved : (boundary others front : List Edge) (elements : List (List Point)) (cs : List Point) (e : Edge) → IsKept boundary others front elements → IsStrictlyConvex cs → AllByRecursion (λ f. IsApart f.a f.b cs) front → IsIn e (sides cs) → IsIn e front → wind (centre cs) front ≡ pos 1
centre_saved boundary others front elements cs e k v ap s f = from (one_near boundary others front elements cs e k v s f)
  where
    from : HasOneNear others front elements cs → wind (centre cs) front ≡ pos 1
    from r = alike_inside cs (centre cs) r.at front v k.edges k.closed ap (centre_rational cs v) r.rational (centre_in_polygon cs v) r.inside ∙ r.once
