-- No mesh point of one domain hangs in a side of another domain's element.
-- Off the element's boundary, the boundary winds round all points near v as round v, at least once; so v is no corner of an element of the other domain, nor an end of a piece of it: near the middle of that piece the other boundary winds once on the left side (the jump), and the way there from v meets no piece of the first.
-- On the boundary, v is an end of a piece of both, or in an open piece of both, and one of the two domains has it hanging.
use Prim.Native.Nat.{ℕ, ◌≤◌}
use lib.IntN.{ℤ, pos, ◌+ℤ◌, ◌-ℤ◌, ◌*ℤ◌}
use lib.Signed.{◌<ℤ◌, ◌≤ℤ◌}
use mathlib.Core.Path.{◌≡◌, refl, sym, ap, ◌∙◌, subst}
use mathlib.Core.List.{List, [], ◌∷◌, ◌++◌}
use mathlib.Core.Logic.{◌⊎◌, inl, inr}
use native.Mathlib.Omega.{arith}
use Rattle.std.proofs.lemmas.Int.{ints}
use Rattle.std.specs.List.{AllByRecursion}
use Rattle.grid_geom.specs.declared.Point.{Point}
use Rattle.grid_geom.specs.declared.RatPoint.{RatPoint}
use Rattle.grid_geom.specs.declared.Edge.{Edge}
use Rattle.grid_geom.specs.Plane.{IsRational}
use Rattle.grid_geom.specs.Line.{Line, side, whole, through}
use Rattle.grid_geom.specs.Sides.{IsOnClosed, IsOnOpen, second_start, second_end}
use Rattle.grid_geom.specs.Sharing.{IsShared, ShareAtMostAnEnd, nothing, one_end, IsAt, IsEnd}
use Rattle.grid_geom.specs.Segment.{IsOnSegment, DoMeet, IsSeparated}
use Rattle.grid_geom.specs.Polygon.{IsInPolygon, IsStrictlyConvex}
use Rattle.grid_geom.specs.Winding.{wind}
use Rattle.grid_geom.specs.Closed.{IsEdge, IsOff}
use Rattle.grid_geom.proofs.Ring.{var, num, ◌⊕◌, ◌⊖◌, ◌⊗◌, ring}
use Rattle.grid_geom.proofs.Signs.{pos_mul}
use Rattle.grid_geom.proofs.Lines.{through_is, orient_back}
use Rattle.grid_geom.proofs.Meeting.{beyond, squared, squared_pos, separate_or_meet}
use Rattle.grid_geom.proofs.Meeting.{within as placed}
use Rattle.grid_geom.proofs.OnSegment.{on_closed}
use Rattle.grid_geom.proofs.Means.{mean_right}
use Rattle.grid_geom.proofs.SharedPoint.{same_or_not, closed_segment}
use Rattle.grid_geom.proofs.SharedEnds.{shares_tangle}
use Rattle.wind_law.specs.Chains.{edge, back, times}
use Rattle.wind_law.specs.Near.{IsInClosure}
use Rattle.wind_law.proofs.EdgeLines.{line_start, line_end}
use Rattle.wind_law.proofs.Uncrossed.{IsPartedByLine, uncrossed}
use Rattle.state_law.specs.Free.{AreAlike, DoEdgesTangle, IsIn}
use Rattle.state_law.specs.Net.{net}
use Rattle.state_law.specs.Kept.{all_sides, IsNoneOrOne, IsKept}
use Rattle.state_law.specs.Saved.{IsElement, IsElementCorner, IsFrontPoint}
use Rattle.state_law.specs.Conforming.{IsBoundary, WindsOnce, IsUsed, AreNeighbours, IsSound, IsMeshPoint}
use Rattle.state_law.proofs.Lists.{all_map, at_edge}
use Rattle.state_law.proofs.Counts.{in_or_not, in_by_times, times_some, times_not_in, net_in}
use Rattle.state_law.proofs.Untangled.{tangle_two_way, free_weaker, tangle_of_alike}
use Rattle.state_law.proofs.Parted.{IsPartedFrom, on_or_parted, HasAlikeNear, alike_near}
use Rattle.state_law.proofs.KeptOn.{kept_wind}
use Rattle.state_law.proofs.CentreSaved.{middle, middle_straight, middle_before, middle_after, IsApartOrSame, apart_or_same, apart_or_back, none_reversed, parts_off, state_edges, IsAround, jump_around}
use Rattle.state_law.proofs.Saved.{one_wind, element_convex, corner_closure, on_end_or_open, start_closed, end_closed}
use Rattle.state_law.proofs.Hanging.{side_closure, corner_of, HasCorner}
use Rattle.state_law.proofs.Applied.{HasEnd, end_of}
use Rattle.state_law.proofs.Conform.{HasSide, side_of}

-- ---- on an edge of a list, or on none
record IsOnSome (v : RatPoint) (es : List Edge) : Type 0 where
  edge_at : Edge
  among : IsIn edge_at es
  on : IsOnClosed v edge_at.a edge_at.b

parted_off : (v : RatPoint) (e : Edge) → IsRational v → IsPartedFrom v e → ¬ (IsOnClosed v e.a e.b)
parted_off v e kv p o = clash (mean_right p.line v (whole e.a) (whole e.b) (closed_segment e.a e.b v kv.positive o) kv.positive (omega (arith, ints)) (omega (arith, ints)) p.start_right p.end_right) p.v_left
  where
    clash : {z : ℤ} → z ≤ℤ pos 0 → pos 0 <ℤ z → ⊥
    clash {z} h i = omega (arith, ints)

on_or_off : (v : RatPoint) (es : List Edge) → IsRational v → AllByRecursion IsEdge es → IsOnSome v es ⊎ IsOff v es
on_or_off v [] kv n = inr tt
on_or_off v (e ∷ es) kv n = elim (on_or_parted v e n.0 kv) [
  | inl o ↦ inl (record { edge_at = e; among = inl refl; on = o })
  | inr p ↦ elim (on_or_off v es kv n.1) [
    | inl s ↦ inl (record { edge_at = s.edge_at; among = inr s.among; on = s.on })
    | inr f ↦ inr (parted_off v e kv p, f)
  ]
]

-- ---- half of a piece, from its first end to its middle
half_on : (e : Edge) (x : RatPoint) → IsEdge e → IsRational x → IsOnSegment x (whole e.a) (middle e) → IsOnClosed x e.a e.b
half_on e x n kx h = on_closed e.a e.b x kx.positive (placed e.a e.b x n kx.positive
    (level (mean_right (through e.a e.b) x (whole e.a) (middle e) h kx.positive (omega (arith, ints)) (omega (arith, ints)) (line_start e.a e.b) (at_most (through_is e.a e.b (middle e) ∙ middle_straight e)))
    (mean_right (through e.b e.a) x (whole e.a) (middle e) h kx.positive (omega (arith, ints)) (omega (arith, ints)) (line_end e.b e.a) (at_most (through_is e.b e.a (middle e) ∙ orient_back e.a e.b (middle e) ∙ ap (λ (z : ℤ). pos 0 -ℤ z) (middle_straight e)))) (through_is e.a e.b x) (through_is e.b e.a x) (orient_back e.a e.b x))
    (mean_right (beyond e.a e.b) x (whole e.a) (middle e) h kx.positive (omega (arith, ints)) (omega (arith, ints)) (below (beyond_first e.a e.b) (squared_pos e.a e.b n)) (below (middle_before e.a e.b) (squared_pos e.a e.b n)))
    (mean_right (beyond e.b e.a) x (whole e.a) (middle e) h kx.positive (omega (arith, ints)) (omega (arith, ints)) (at_most (beyond_second e.a e.b)) (below (middle_after e.a e.b) (squared_pos e.a e.b n))))
  where
    at_most : {z : ℤ} → z ≡ pos 0 → z ≤ℤ pos 0
    at_most {z} e = omega (arith, ints)

    below : {x y : ℤ} → x ≡ pos 0 -ℤ y → pos 0 <ℤ y → x ≤ℤ pos 0
    below {x} {y} e h = omega (arith, ints)

    level : {x y z w : ℤ} → x ≤ℤ pos 0 → y ≤ℤ pos 0 → x ≡ z → y ≡ w → w ≡ pos 0 -ℤ z → z ≡ pos 0
    level {x} {y} {z} {w} h i e f g = omega (arith, ints)

    beyond_first : (a b : Point) → side (beyond a b) (whole a) ≡ pos 0 -ℤ squared a b
    beyond_first a b = ring (a.x ∷ a.y ∷ b.x ∷ b.y ∷ [])
        ((var 2 ⊖ var 0) ⊗ var 0 ⊕ (var 3 ⊖ var 1) ⊗ var 1 ⊕ (num (pos 0) ⊖ (var 2 ⊖ var 0) ⊗ var 2 ⊖ (var 3 ⊖ var 1) ⊗ var 3) ⊗ num (pos 1))
        (num (pos 0) ⊖ ((var 2 ⊖ var 0) ⊗ (var 2 ⊖ var 0) ⊕ (var 3 ⊖ var 1) ⊗ (var 3 ⊖ var 1))) refl

    beyond_second : (a b : Point) → side (beyond b a) (whole a) ≡ pos 0
    beyond_second a b = ring (a.x ∷ a.y ∷ b.x ∷ b.y ∷ [])
        ((var 0 ⊖ var 2) ⊗ var 0 ⊕ (var 1 ⊖ var 3) ⊗ var 1 ⊕ (num (pos 0) ⊖ (var 0 ⊖ var 2) ⊗ var 0 ⊖ (var 1 ⊖ var 3) ⊗ var 1) ⊗ num (pos 1)) (num (pos 0)) refl

-- a line that has the second end on its open left, and that half on its closed right
abbrev past_half : Point → Point → Line
past_half a b = record { a = pos 2 *ℤ (b.x -ℤ a.x); b = pos 2 *ℤ (b.y -ℤ a.y); c = (pos 0 -ℤ (b.x -ℤ a.x) *ℤ (b.x +ℤ a.x)) -ℤ (b.y -ℤ a.y) *ℤ (b.y +ℤ a.y) }

not_second : (e : Edge) (x : RatPoint) → IsEdge e → IsRational x → IsOnSegment x (whole e.a) (middle e) → IsAt x e.b → ⊥
not_second e x n kx h i = clash (mean_right (past_half e.a e.b) x (whole e.a) (middle e) h kx.positive (omega (arith, ints)) (omega (arith, ints)) (below (first e.a e.b) (squared_pos e.a e.b n)) (level (half e.a e.b)))
    (last e.a e.b x.k ∙ ap (λ (z : ℤ). (pos 2 *ℤ (e.b.x -ℤ e.a.x)) *ℤ z +ℤ (pos 2 *ℤ (e.b.y -ℤ e.a.y)) *ℤ (e.b.y *ℤ x.k) +ℤ ((pos 0 -ℤ (e.b.x -ℤ e.a.x) *ℤ (e.b.x +ℤ e.a.x)) -ℤ (e.b.y -ℤ e.a.y) *ℤ (e.b.y +ℤ e.a.y)) *ℤ x.k) (sym i.x_is)
    ∙ ap (λ (z : ℤ). (pos 2 *ℤ (e.b.x -ℤ e.a.x)) *ℤ x.x +ℤ (pos 2 *ℤ (e.b.y -ℤ e.a.y)) *ℤ z +ℤ ((pos 0 -ℤ (e.b.x -ℤ e.a.x) *ℤ (e.b.x +ℤ e.a.x)) -ℤ (e.b.y -ℤ e.a.y) *ℤ (e.b.y +ℤ e.a.y)) *ℤ x.k) (sym i.y_is))
    (pos_mul (squared e.a e.b) x.k (squared_pos e.a e.b n) kx.positive)
  where
    below : {x y : ℤ} → x ≡ pos 0 -ℤ y → pos 0 <ℤ y → x ≤ℤ pos 0
    below {x} {y} e h = omega (arith, ints)

    level : {z : ℤ} → z ≡ pos 0 → z ≤ℤ pos 0
    level {z} e = omega (arith, ints)

    clash : {s t : ℤ} → t ≤ℤ pos 0 → s ≡ t → pos 0 <ℤ s → ⊥
    clash {s} {t} h e i = omega (arith, ints)

    first : (a b : Point) → side (past_half a b) (whole a) ≡ pos 0 -ℤ squared a b
    first a b = ring (a.x ∷ a.y ∷ b.x ∷ b.y ∷ [])
        ((num (pos 2) ⊗ (var 2 ⊖ var 0)) ⊗ var 0 ⊕ (num (pos 2) ⊗ (var 3 ⊖ var 1)) ⊗ var 1 ⊕ ((num (pos 0) ⊖ (var 2 ⊖ var 0) ⊗ (var 2 ⊕ var 0)) ⊖ (var 3 ⊖ var 1) ⊗ (var 3 ⊕ var 1)) ⊗ num (pos 1))
        (num (pos 0) ⊖ ((var 2 ⊖ var 0) ⊗ (var 2 ⊖ var 0) ⊕ (var 3 ⊖ var 1) ⊗ (var 3 ⊖ var 1))) refl

    half : (a b : Point) → side (past_half a b) (middle (edge a b)) ≡ pos 0
    half a b = ring (a.x ∷ a.y ∷ b.x ∷ b.y ∷ [])
        ((num (pos 2) ⊗ (var 2 ⊖ var 0)) ⊗ (var 0 ⊕ var 2) ⊕ (num (pos 2) ⊗ (var 3 ⊖ var 1)) ⊗ (var 1 ⊕ var 3) ⊕ ((num (pos 0) ⊖ (var 2 ⊖ var 0) ⊗ (var 2 ⊕ var 0)) ⊖ (var 3 ⊖ var 1) ⊗ (var 3 ⊕ var 1)) ⊗ num (pos 2))
        (num (pos 0)) refl

    last : (a b : Point) (k : ℤ) → squared a b *ℤ k ≡ (pos 2 *ℤ (b.x -ℤ a.x)) *ℤ (b.x *ℤ k) +ℤ (pos 2 *ℤ (b.y -ℤ a.y)) *ℤ (b.y *ℤ k) +ℤ ((pos 0 -ℤ (b.x -ℤ a.x) *ℤ (b.x +ℤ a.x)) -ℤ (b.y -ℤ a.y) *ℤ (b.y +ℤ a.y)) *ℤ k
    last a b k = ring (a.x ∷ a.y ∷ b.x ∷ b.y ∷ k ∷ [])
        (((var 2 ⊖ var 0) ⊗ (var 2 ⊖ var 0) ⊕ (var 3 ⊖ var 1) ⊗ (var 3 ⊖ var 1)) ⊗ var 4)
        ((num (pos 2) ⊗ (var 2 ⊖ var 0)) ⊗ (var 2 ⊗ var 4) ⊕ (num (pos 2) ⊗ (var 3 ⊖ var 1)) ⊗ (var 3 ⊗ var 4) ⊕ ((num (pos 0) ⊖ (var 2 ⊖ var 0) ⊗ (var 2 ⊕ var 0)) ⊖ (var 3 ⊖ var 1) ⊗ (var 3 ⊕ var 1)) ⊗ var 4) refl

-- ---- the way from an end of a piece to its middle, past the edges of a list that the end is off
record IsWalk (e : Edge) (fs : List Edge) : Type 0 where
  all : List Line
  left : AllByRecursion (λ l. pos 0 <ℤ side l (middle e)) all
  parted : (u : RatPoint) → AllByRecursion (λ l. pos 0 <ℤ side l u) all → AllByRecursion (IsPartedByLine u (whole e.a)) fs

end_on : (v : Point) (f : Edge) → (v ≡ f.a) ⊎ (v ≡ f.b) → IsOnClosed (whole v) f.a f.b
end_on v f (inl i) = subst (λ (z : Point). IsOnClosed (whole z) f.a f.b) (sym i) (start_closed f.a f.b)
end_on v f (inr i) = subst (λ (z : Point). IsOnClosed (whole z) f.a f.b) (sym i) (end_closed f.a f.b)

no_meeting : (e f : Edge) → IsEdge e → IsEdge f → ¬ (IsOnClosed (whole e.a) f.a f.b) → IsApartOrSame f e → DoMeet (whole e.a) (middle e) (whole f.a) (whole f.b) → ⊥
no_meeting e f n m o (inl i) d = o (end_on e.a f (inl (ap (λ (z : Edge). z.a) i)))
no_meeting e f n m o (inr (inl i)) d = o (end_on e.a f (inr (ap (λ (z : Edge). z.a) i)))
no_meeting e f n m o (inr (inr t)) d = shared (shares_tangle f.a f.b e.a e.b m n t)
  where
    both : IsShared d.at f.a f.b e.a e.b
    both = record { rational = record { positive = d.rational }; on_first = on_closed f.a f.b d.at d.rational d.on_second; on_second = half_on e d.at n (record { positive = d.rational }) d.on_first }

    ends : (k : Point) → IsEnd k f.a f.b → IsEnd k e.a e.b → IsAt d.at k → ⊥
    ends k i (inl j) h = o (subst (λ (z : Point). IsOnClosed (whole z) f.a f.b) j (end_on k f i))
    ends k i (inr j) h = not_second e d.at n (record { positive = d.rational }) d.on_first (subst (IsAt d.at) j h)

    shared : ShareAtMostAnEnd f.a f.b e.a e.b → ⊥
    shared (nothing h) = h d.at both
    shared (one_end k i j h) = ends k i j (h d.at both)

walk : (e : Edge) (fs : List Edge) → IsEdge e → AllByRecursion IsEdge fs → IsOff (whole e.a) fs → AllByRecursion (λ f. IsApartOrSame f e) fs → IsWalk e fs
walk e [] n ns o a = record { all = []; left = tt; parted = λ u h. tt }
walk e (f ∷ fs) n ns o a = elim (separate_or_meet (whole e.a) (middle e) f.a f.b ns.0 (omega (arith, ints)) (omega (arith, ints))) [
  | inr d ↦ absurd (no_meeting e f n ns.0 o.0 a.0 d)
  | inl s ↦ more s (walk e fs n ns.1 o.1 a.1)
]
  where
    more : IsSeparated (whole e.a) (middle e) (whole f.a) (whole f.b) → IsWalk e fs → IsWalk e (f ∷ fs)
    more s r = record {
      all = s.line ∷ r.all;
      left = (s.q_left, r.left);
      parted = λ u h. (record { line = s.line; start_right = s.c_right; end_right = s.d_right; p_left = h.0; q_left = s.p_left }, r.parted u h.1);
    }

-- ---- an end of a piece of the next domain, off the boundary, is not round which the boundary winds
least_of : (a : ℤ) → IsNoneOrOne a → pos 0 ≤ℤ a
least_of a (inl h) = omega (arith, ints)
least_of a (inr h) = omega (arith, ints)

foreign : (boundary next others : List Edge) (e : Edge) → AllByRecursion IsEdge others → IsBoundary boundary others → IsBoundary next others → WindsOnce next others → AreNeighbours boundary next others → IsEdge e → IsOff (whole e.a) boundary → AllByRecursion (λ f. IsApartOrSame f e) boundary
    → AllByRecursion (IsApartOrSame e) next → (pos 1 ≤ℤ (pos (times e next) -ℤ pos (times (back e) next))) ⊎ (pos 1 ≤ℤ (pos (times (back e) next) -ℤ pos (times e next))) → pos 1 ≤ℤ wind (whole e.a) boundary → ⊥
foreign boundary next others e ns b c w d n o a rest j h = around (walk e boundary n b.edges o a)
  where
    up : (p q t : ℤ) → p -ℤ q ≡ t → pos 1 ≤ℤ t → pos 0 ≤ℤ q → pos 1 ≤ℤ p
    up p q t e h i = omega (arith, ints)

    down : (p q m n : ℤ) → p -ℤ q ≡ m -ℤ n → pos 1 ≤ℤ (n -ℤ m) → pos 0 ≤ℤ p → pos 1 ≤ℤ q
    down p q m n e h i = omega (arith, ints)

    as_end : {x y : ℤ} → x ≡ y → pos 1 ≤ℤ y → pos 1 ≤ℤ x
    as_end {x} {y} e h = omega (arith, ints)

    rational : IsRational (whole e.a)
    rational = record { positive = omega (arith, ints) }

    around : IsWalk e boundary → ⊥
    around r = clash (jump_around e r.all next others n r.left c.edges c.closed rest ns)
      where
        clash : IsAround e r.all next others → ⊥
        clash s = elim j [
          | inl i ↦ d.apart s.p s.p_rational s.p_off (as_end (uncrossed s.p (whole e.a) boundary b.closed s.p_rational rational (r.parted s.p s.p_near)) h) (up (wind s.p next) (wind s.q next) (pos (times e next) -ℤ pos (times (back e) next)) s.jumps i (least_of (wind s.q next) (w s.q s.q_rational s.q_off)))
          | inr i ↦ d.apart s.q s.q_rational s.q_off (as_end (uncrossed s.q (whole e.a) boundary b.closed s.q_rational rational (r.parted s.q s.q_near)) h) (down (wind s.p next) (wind s.q next) (pos (times e next)) (pos (times (back e) next)) s.jumps i (least_of (wind s.p next) (w s.p s.p_rational s.p_off)))
        ]

-- the relation of all pieces to one of the next domain, and to it reversed
column : (boundary next : List Edge) (g : Edge) → AllByRecursion (λ f. AllByRecursion (λ g. (g ≡ f) ⊎ ((g ≡ back f) ⊎ ¬ (DoEdgesTangle f g))) next) boundary → IsIn g next → AllByRecursion (λ f. IsApartOrSame f g) boundary
column boundary next g h i = all_map (λ f. AllByRecursion (λ g. (g ≡ f) ⊎ ((g ≡ back f) ⊎ ¬ (DoEdgesTangle f g))) next) (λ f. IsApartOrSame f g) (λ f r. at_edge (λ g. (g ≡ f) ⊎ ((g ≡ back f) ⊎ ¬ (DoEdgesTangle f g))) g next r i) boundary h

column_back : (boundary : List Edge) (g : Edge) → AllByRecursion (λ f. IsApartOrSame f g) boundary → AllByRecursion (λ f. IsApartOrSame f (back g)) boundary
column_back boundary g h = all_map (λ f. IsApartOrSame f g) (λ f. IsApartOrSame f (back g)) (λ f r. turned f r) boundary h
  where
    turned : (f : Edge) → IsApartOrSame f g → IsApartOrSame f (back g)
    turned f (inl i) = inr (inl (ap back i))
    turned f (inr (inl i)) = inl (ap back i)
    turned f (inr (inr t)) = inr (inr (λ r. t (tangle_two_way.later f g r)))

piece_end : (boundary next others : List Edge) (v : Point) → AllByRecursion IsEdge others → IsBoundary boundary others → IsBoundary next others → WindsOnce next others → AreNeighbours boundary next others → HasEnd v next → IsOff (whole v) boundary → pos 1 ≤ℤ wind (whole v) boundary → ⊥
piece_end boundary next others v ns b c w d r o h = cases r.at_end
  where
    n : IsEdge r.line
    n = at_edge IsEdge r.line next c.edges r.among

    some : (k l : ℕ) → 1 ≤ k → l ≡ 0 → pos 1 ≤ℤ (pos k -ℤ pos l)
    some k l h e = omega (arith, ints)

    once : pos 1 ≤ℤ (pos (times r.line next) -ℤ pos (times (back r.line) next))
    once = some (times r.line next) (times (back r.line) next) (times_some r.line next r.among) (none_reversed r.line next n c.untangled r.among)

    cases : (v ≡ r.line.a) ⊎ (v ≡ r.line.b) → ⊥
    cases (inl i) = foreign boundary next others r.line ns b c w d n (subst (λ (z : Point). IsOff (whole z) boundary) i o) (column boundary next r.line d.pieces r.among) (apart_or_same r.line next c.untangled r.among) (inl once) (subst (λ (z : Point). pos 1 ≤ℤ wind (whole z) boundary) i h)
    cases (inr i) = foreign boundary next others (back r.line) ns b c w d (λ e. n (sym e)) (subst (λ (z : Point). IsOff (whole z) boundary) i o) (column_back boundary r.line (column boundary next r.line d.pieces r.among)) (apart_or_back (back r.line) next c.untangled r.among) (inr once) (subst (λ (z : Point). pos 1 ≤ℤ wind (whole z) boundary) i h)

-- ---- two elements at one point
-- near a point of an element that is off the boundary, so round it, the boundary winds at least once
least : (f : ℤ) {s t : ℤ} → s ≡ f +ℤ t → IsNoneOrOne f → pos 1 ≤ℤ t → pos 1 ≤ℤ s
least f {s} {t} e (inl h) i = omega (arith, ints)
least f {s} {t} e (inr h) i = omega (arith, ints)

in_element : (boundary others front : List Edge) (elements : List (List Point)) (ds : List Point) (u : RatPoint) → IsKept boundary others front elements → IsElement ds elements → IsRational u → IsOff u (others ++ (front ++ all_sides elements)) → IsInPolygon u ds → pos 1 ≤ℤ wind u boundary
in_element boundary others front elements ds u k d ku o i = least (wind u front) (kept_wind boundary others front elements k u) (k.single u ku (parts_off others front elements u o)) (one_wind u ds elements ku k.convex (parts_off others front elements u o).off_elements d i)

at_least_once : (boundary others front : List Edge) (elements : List (List Point)) (ds : List Point) (v : RatPoint) → IsSound boundary others front elements → IsElement ds elements → IsRational v → IsInClosure v ds → IsOff v boundary → pos 1 ≤ℤ wind v boundary
at_least_once boundary others front elements ds v s d kv i o = from (alike_near v ds boundary (others ++ (front ++ all_sides elements)) kv (element_convex ds elements s.kept.convex d) i s.bounds.edges s.bounds.closed o (state_edges boundary others front elements s.kept))
  where
    same : {x y : ℤ} → x ≡ y → pos 1 ≤ℤ x → pos 1 ≤ℤ y
    same {x} {y} e h = omega (arith, ints)

    from : HasAlikeNear v ds boundary (others ++ (front ++ all_sides elements)) → pos 1 ≤ℤ wind v boundary
    from r = same r.alike (in_element boundary others front elements ds r.at s.kept d r.rational r.off r.inside)

two_elements : (boundary others front : List Edge) (elements : List (List Point)) (next after : List Edge) (others_of_next : List (List Point)) (ds es : List Point) (v : RatPoint) → ((q : RatPoint) → IsRational q → IsOff q others → pos 1 ≤ℤ wind q boundary → pos 1 ≤ℤ wind q next → ⊥)
    → IsSound boundary others front elements → IsSound next others after others_of_next → IsElement ds elements → IsElement es others_of_next → IsRational v → IsInClosure v ds → IsInClosure v es → IsOff v boundary → ⊥
two_elements boundary others front elements next after more ds es v a s t d e kv i j o = from (alike_near v es boundary (others ++ (after ++ all_sides more)) kv (element_convex es more t.kept.convex e) j s.bounds.edges s.bounds.closed o (state_edges next others after more t.kept))
  where
    same : {x y : ℤ} → x ≡ y → pos 1 ≤ℤ y → pos 1 ≤ℤ x
    same {x} {y} e h = omega (arith, ints)

    from : HasAlikeNear v es boundary (others ++ (after ++ all_sides more)) → ⊥
    from r = a r.at r.rational (parts_off others after more r.at r.off).off_others (same r.alike (at_least_once boundary others front elements ds v s d kv i o)) (in_element next others after more es r.at t.kept e r.rational r.off r.inside)

-- ---- the law
ends_or_open : (v : Point) (f : Edge) → IsOnClosed (whole v) f.a f.b → ((v ≡ f.a) ⊎ (v ≡ f.b)) ⊎ IsOnOpen v f.a f.b
ends_or_open v f o = elim (same_or_not v f.a) [
  | inl i ↦ inl (inl i)
  | inr n ↦ elim (same_or_not v f.b) [ inl i ↦ inl (inr i) | inr m ↦ inr (on_end_or_open v f.a f.b o n m) ]
]

pub is_front_point : (v : Point) (f : Edge) (es : List Edge) → IsIn f es → (v ≡ f.a) ⊎ (v ≡ f.b) → IsFrontPoint es v
is_front_point v f [] j i = absurd j
is_front_point v f (g ∷ es) (inl j) i = inl (subst (λ (z : Edge). (v ≡ z.a) ⊎ (v ≡ z.b)) (sym j) i)
is_front_point v f (g ∷ es) (inr j) i = inr (is_front_point v f es j i)

not_end : (v : Point) (f : Edge) → IsOnOpen v f.a f.b → (v ≡ f.a) ⊎ (v ≡ f.b) → ⊥
not_end v f o (inl i) = o.not_a i
not_end v f o (inr i) = o.not_b i

-- an end of one piece in another's open segment
piece_clash : (v : Point) (f g : Edge) → IsOnOpen v f.a f.b → (v ≡ g.a) ⊎ (v ≡ g.b) → (g ≡ f) ⊎ ((g ≡ back f) ⊎ ¬ (DoEdgesTangle f g)) → ⊥
piece_clash v f g o i (inl e) = not_end v f o (subst (λ (z : Edge). (v ≡ z.a) ⊎ (v ≡ z.b)) e i)
piece_clash v f g o i (inr (inl e)) = not_end v f o (turned (subst (λ (z : Edge). (v ≡ z.a) ⊎ (v ≡ z.b)) e i))
  where
    turned : (v ≡ f.b) ⊎ (v ≡ f.a) → (v ≡ f.a) ⊎ (v ≡ f.b)
    turned (inl j) = inr j
    turned (inr j) = inl j
piece_clash v f g o (inl i) (inr (inr t)) = t (second_start (subst (λ (z : Point). IsOnOpen z f.a f.b) i o))
piece_clash v f g o (inr i) (inr (inr t)) = t (second_end (subst (λ (z : Point). IsOnOpen z f.a f.b) i o))

-- an edge of the boundary is a front line or a side of an element
still_there : (boundary others front : List Edge) (elements : List (List Point)) (g : Edge) → IsSound boundary others front elements → IsIn g boundary → IsIn g front ⊎ IsIn g (all_sides elements)
still_there boundary others front elements g s i = elim (in_or_not g front) [
  | inl j ↦ inl j
  | inr n ↦ inr (in_by_times g (all_sides elements) (some (net g boundary) (times g front) (times (back g) front) (times g (all_sides elements)) (times (back g) (all_sides elements)) (s.kept.chain g)
      (net_in g boundary (at_edge IsEdge g boundary s.bounds.edges i) (free_weaker DoEdgesTangle AreAlike tangle_of_alike boundary s.bounds.untangled) i) (times_not_in g front n)))
]
  where
    some : (b : ℤ) (k l m n : ℕ) → b ≡ (pos k -ℤ pos l) +ℤ (pos m -ℤ pos n) → pos 1 ≤ℤ b → k ≡ 0 → 1 ≤ m
    some b k l m n e h i = omega (arith, ints)

pub foreign_hanging : (boundary others front : List Edge) (elements : List (List Point)) (next after : List Edge) (more : List (List Point)) (v : Point) (s : Edge) → IsSound boundary others front elements → IsSound next others after more → AreNeighbours boundary next others → IsMeshPoint next more v → IsIn s (all_sides elements) → ¬ (IsOnOpen v s.a s.b)
foreign_hanging boundary others front elements next after more v s d d' a p i o = elim (on_or_off (whole v) boundary rational d.bounds.edges) [
  | inl r ↦ on_boundary r
  | inr f ↦ off_boundary f p
]
  where
    rational : IsRational (whole v)
    rational = record { positive = omega (arith, ints) }

    t : HasSide s elements
    t = side_of s elements i

    closure : IsInClosure (whole v) t.element
    closure = side_closure v t.element s (element_convex t.element elements d.kept.convex t.among) t.has o

    corner_in : (c : HasCorner v more) → IsInClosure (whole v) c.element
    corner_in c = corner_closure v c.element (element_convex c.element more d'.kept.convex c.among) c.has

    off_boundary : IsOff (whole v) boundary → IsMeshPoint next more v → ⊥
    off_boundary f (inr c) = let r = corner_of v more c in two_elements boundary others front elements next after more t.element r.element (whole v) a.apart d d' t.among r.among rational closure (corner_in r) f
    off_boundary f (inl e) = piece_end boundary next others v d.kept.other_edges d.bounds d'.bounds d'.winds a (end_of v next e) f (at_least_once boundary others front elements t.element (whole v) d t.among rational closure f)

    used_next : IsMeshPoint next more v → IsUsed after more v
    used_next (inl e) = d'.ends_used v e
    used_next (inr c) = inr c

    in_open : (g : Edge) → IsIn g next → IsOnOpen v g.a g.b → IsIn g after ⊎ IsIn g (all_sides more) → ⊥
    in_open g j u (inl k) = at_edge (λ e. ¬ (IsOnOpen v e.a e.b)) g after (d'.unhung.each v (used_next p)).off_lines k u
    in_open g j u (inr k) = at_edge (λ e. ¬ (IsOnOpen v e.a e.b)) g (all_sides more) (d'.unhung.each v (used_next p)).off_sides k u

    off_next : IsOff (whole v) next → IsMeshPoint next more v → ⊥
    off_next f (inl e) = let r = end_of v next e in at_edge (λ e. ¬ (IsOnClosed (whole v) e.a e.b)) r.line next f r.among (end_on v r.line r.at_end)
    off_next f (inr c) = let r = corner_of v more c in two_elements next others after more boundary front elements r.element t.element (whole v) (λ q kq g h k. a.apart q kq g k h) d' d r.among t.among rational (corner_in r) closure f

    on_next : (f : Edge) → IsIn f boundary → IsOnOpen v f.a f.b → IsOnSome (whole v) next → ⊥
    on_next f j u r = elim (ends_or_open v r.edge_at r.on) [
      | inl e ↦ piece_clash v f r.edge_at u e (at_edge (λ g. (g ≡ f) ⊎ ((g ≡ back f) ⊎ ¬ (DoEdgesTangle f g))) r.edge_at next (at_edge (λ f. AllByRecursion (λ g. (g ≡ f) ⊎ ((g ≡ back f) ⊎ ¬ (DoEdgesTangle f g))) next) f boundary a.pieces j) r.among)
      | inr w ↦ in_open r.edge_at r.among w (still_there next others after more r.edge_at d' r.among)
    ]

    on_boundary : IsOnSome (whole v) boundary → ⊥
    on_boundary r = elim (ends_or_open v r.edge_at r.on) [
      | inl e ↦ at_edge (λ s. ¬ (IsOnOpen v s.a s.b)) s (all_sides elements) (d.unhung.each v (d.ends_used v (is_front_point v r.edge_at boundary r.among e))).off_sides i o
      | inr u ↦ elim (on_or_off (whole v) next rational d'.bounds.edges) [
        | inl n ↦ on_next r.edge_at r.among u n
        | inr f ↦ off_next f p
      ]
    ]

-- ---- one place in two domains
-- a corner of an element that is a mesh point of the next domain is an end of a piece: off the boundary the domains would overlap round it, and in an open piece it would hang
pub shared_place : (boundary others front : List Edge) (elements : List (List Point)) (next after : List Edge) (more : List (List Point)) (v : Point) → IsSound boundary others front elements → IsSound next others after more → AreNeighbours boundary next others → IsElementCorner v elements → IsMeshPoint next more v
    → IsFrontPoint boundary v
shared_place boundary others front elements next after more v s t a c p = elim (on_or_off (whole v) boundary rational s.bounds.edges) [
  | inl r ↦ on_boundary r (ends_or_open v r.edge_at r.on)
  | inr f ↦ absurd (off_boundary f p)
]
  where
    rational : IsRational (whole v)
    rational = record { positive = omega (arith, ints) }

    own : HasCorner v elements
    own = corner_of v elements c

    corner_in : (cs : List (List Point)) → AllByRecursion IsStrictlyConvex cs → (h : HasCorner v cs) → IsInClosure (whole v) h.element
    corner_in cs convex h = corner_closure v h.element (element_convex h.element cs convex h.among) h.has

    off_boundary : IsOff (whole v) boundary → IsMeshPoint next more v → ⊥
    off_boundary f (inr d) =
        let other = corner_of v more d in
        two_elements boundary others front elements next after more own.element other.element (whole v) a.apart s t own.among other.among rational (corner_in elements s.kept.convex own) (corner_in more t.kept.convex other) f
    off_boundary f (inl e) =
        piece_end boundary next others v s.kept.other_edges s.bounds t.bounds t.winds a (end_of v next e) f (at_least_once boundary others front elements own.element (whole v) s own.among rational (corner_in elements s.kept.convex own) f)

    in_open : (g : Edge) → IsOnOpen v g.a g.b → IsIn g front ⊎ IsIn g (all_sides elements) → ⊥
    in_open g u (inl k) = at_edge (λ e. ¬ (IsOnOpen v e.a e.b)) g front (s.unhung.each v (inr c)).off_lines k u
    in_open g u (inr k) = at_edge (λ e. ¬ (IsOnOpen v e.a e.b)) g (all_sides elements) (s.unhung.each v (inr c)).off_sides k u

    on_boundary : (r : IsOnSome (whole v) boundary) → ((v ≡ r.edge_at.a) ⊎ (v ≡ r.edge_at.b)) ⊎ IsOnOpen v r.edge_at.a r.edge_at.b → IsFrontPoint boundary v
    on_boundary r (inl end) = is_front_point v r.edge_at boundary r.among end
    on_boundary r (inr o) = absurd (in_open r.edge_at o (still_there boundary others front elements r.edge_at s r.among))
