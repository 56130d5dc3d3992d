-- A line of a region that is cut at a grid point of its open segment leaves a region: so a region's boundary may be opened in pieces.
-- A piece shares no more with another line than the whole does, and the two pieces share the place of the cut alone (grid_geom's SharedEnds). Winding numbers are the same at every point (wind_law's Additive); a point off the pieces has one beside it that is off the whole line too (Beside).
use Prim.Native.Nat.{ℕ, ◌+◌}
use lib.IntN.{ℤ, pos, ◌+ℤ◌, ◌-ℤ◌, ◌*ℤ◌}
use lib.Signed.{◌<ℤ◌, ◌≤ℤ◌}
use mathlib.Core.Bool.{cond}
use mathlib.Core.Path.{◌≡◌, refl, sym, ap, ◌∙◌, subst}
use mathlib.Core.List.{List, [], ◌∷◌, ◌++◌}
use mathlib.Core.Logic.{inl, inr}
use native.Mathlib.Omega.{arith}
use Rattle.std.proofs.lemmas.Int.{ints, clamps}
use Rattle.std.specs.Int.{int_max, int_min}
use Rattle.std.specs.List.{AllByRecursion}
use Rattle.grid_geom.specs.declared.Point.{Point}
use Rattle.grid_geom.specs.declared.RatPoint.{RatPoint}
use Rattle.grid_geom.specs.declared.Edge.{Edge}
use Rattle.grid_geom.specs.Plane.{IsRational}
use Rattle.grid_geom.specs.Sides.{IsOnClosed, IsOnOpen}
use Rattle.grid_geom.specs.Sharing.{IsShared, IsAt, ShareAtMostAnEnd, nothing, one_end}
use Rattle.grid_geom.specs.Winding.{wind, cross}
use Rattle.grid_geom.specs.Closed.{IsClosed, IsEdge, IsOff, same_point, leaving, arriving}
use Rattle.grid_geom.proofs.Signs.{either, le_cancel, le_mul}
use Rattle.grid_geom.proofs.Lines.{orient_back, orient_turned, flat_first, flat_second, same_place}
use Rattle.grid_geom.proofs.SharedEnds.{tangle_shares, shares_tangle}
use Rattle.wind_law.specs.Chains.{edge}
use Rattle.wind_law.proofs.Additive.{wind_cut}
use Rattle.state_law.specs.Free.{AreFreeOf, DoEdgesTangle}
use Rattle.state_law.specs.Kept.{IsNoneOrOne}
use Rattle.state_law.specs.Region.{IsRegion}
use Rattle.state_law.proofs.Lists.{all_append, all_both, all_first, all_second}
use Rattle.state_law.proofs.Untangled.{open_back, tangle_turned, tangle_back_first}
use Rattle.state_law.proofs.Beside.{HasPointBeside, beside, beside_wind}
use Rattle.state_law.proofs.Settled.{closed_left}

-- ---- a piece is on the whole line
piece_in : (a b m : Point) (q : RatPoint) → IsRational q → IsOnOpen m a b → IsOnClosed q a m → IsOnClosed q a b
piece_in a b m q kq o h = record {
  straight = level (closed_left (edge a b) (edge a m) q kq (zero (flat_first a b)) (zero o.straight) h) (closed_left (edge b a) (edge a m) q kq (zero (flat_second b a)) (zero (orient_turned a b m o.straight)) h) (orient_back a b q);
  right_of_least = least (int_min a.x b.x) (int_min a.x m.x) q.k q.x kq.positive (low a.x b.x m.x o.right_of_least o.left_of_greatest) h.right_of_least;
  left_of_greatest = greatest (int_max a.x b.x) (int_max a.x m.x) q.k q.x kq.positive (high a.x b.x m.x o.right_of_least o.left_of_greatest) h.left_of_greatest;
  above_least = least (int_min a.y b.y) (int_min a.y m.y) q.k q.y kq.positive (low a.y b.y m.y o.above_least o.below_greatest) h.above_least;
  below_greatest = greatest (int_max a.y b.y) (int_max a.y m.y) q.k q.y kq.positive (high a.y b.y m.y o.above_least o.below_greatest) h.below_greatest;
}
  where
    zero : {z : ℤ} → z ≡ pos 0 → pos 0 ≤ℤ z
    zero {z} e = omega (arith, ints)

    level : {x y : ℤ} → pos 0 ≤ℤ x → pos 0 ≤ℤ y → y ≡ pos 0 -ℤ x → x ≡ pos 0
    level {x} {y} h i e = omega (arith, ints)

    low : (u w z : ℤ) → int_min u w ≤ℤ z → z ≤ℤ int_max u w → int_min u w ≤ℤ int_min u z
    low u w z h i = omega (arith, ints, clamps)

    high : (u w z : ℤ) → int_min u w ≤ℤ z → z ≤ℤ int_max u w → int_max u z ≤ℤ int_max u w
    high u w z h i = omega (arith, ints, clamps)

    chained : {x y z : ℤ} → x ≤ℤ y → y ≤ℤ z → x ≤ℤ z
    chained {x} {y} {z} h i = omega (arith, ints)

    least : (u w k x : ℤ) → pos 0 <ℤ k → u ≤ℤ w → (w *ℤ k) ≤ℤ x → (u *ℤ k) ≤ℤ x
    least u w k x hk h i = chained (le_mul u w k hk h) i

    greatest : (u w k x : ℤ) → pos 0 <ℤ k → w ≤ℤ u → x ≤ℤ (w *ℤ k) → x ≤ℤ (u *ℤ k)
    greatest u w k x hk h i = chained i (le_mul w u k hk h)

-- the far end of the line is not on the piece
not_beyond : (a b m : Point) (q : RatPoint) → IsRational q → IsOnOpen m a b → IsOnClosed q a m → IsAt q b → ⊥
not_beyond a b m q kq o h i = o.not_b (same_place m b (reached a.x b.x m.x o.right_of_least o.left_of_greatest (le_cancel (int_min a.x m.x) b.x q.k kq.positive (subst (λ (z : ℤ). (int_min a.x m.x *ℤ q.k) ≤ℤ z) i.x_is h.right_of_least)) (le_cancel b.x (int_max a.x m.x) q.k kq.positive (subst (λ (z : ℤ). z ≤ℤ (int_max a.x m.x *ℤ q.k)) i.x_is h.left_of_greatest)))
    (reached a.y b.y m.y o.above_least o.below_greatest (le_cancel (int_min a.y m.y) b.y q.k kq.positive (subst (λ (z : ℤ). (int_min a.y m.y *ℤ q.k) ≤ℤ z) i.y_is h.above_least)) (le_cancel b.y (int_max a.y m.y) q.k kq.positive (subst (λ (z : ℤ). z ≤ℤ (int_max a.y m.y *ℤ q.k)) i.y_is h.below_greatest))))
  where
    reached : (u w z : ℤ) → int_min u w ≤ℤ z → z ≤ℤ int_max u w → int_min u z ≤ℤ w → w ≤ℤ int_max u z → z ≡ w
    reached u w z h i j k = omega (arith, ints, clamps)

-- ---- a piece tangles with no line with which the whole does not tangle
pub piece_free : (a b m : Point) (f : Edge) → ¬ (a ≡ b) → IsEdge f → IsOnOpen m a b → ¬ (DoEdgesTangle (edge a b) f) → ¬ (DoEdgesTangle (edge a m) f)
piece_free a b m f n nf o t g = tangle_shares a m f.a f.b (λ i. o.not_a (sym i)) nf g (shared (shares_tangle a b f.a f.b n nf t))
  where
    wider : (q : RatPoint) → IsShared q a m f.a f.b → IsShared q a b f.a f.b
    wider q s = record { rational = s.rational; on_first = piece_in a b m q s.rational o s.on_first; on_second = s.on_second }

    shared : ShareAtMostAnEnd a b f.a f.b → ShareAtMostAnEnd a m f.a f.b
    shared (nothing h) = nothing (λ q s. h q (wider q s))
    shared (one_end e (inl i) j h) = one_end e (inl i) j (λ q s. h q (wider q s))
    shared (one_end e (inr i) j h) = nothing (λ q s. not_beyond a b m q s.rational o s.on_first (subst (IsAt q) i (h q (wider q s))))

pub rest_free : (a b m : Point) (f : Edge) → ¬ (a ≡ b) → IsEdge f → IsOnOpen m a b → ¬ (DoEdgesTangle (edge a b) f) → ¬ (DoEdgesTangle (edge m b) f)
rest_free a b m f n nf o t g = piece_free b a m f (λ i. n (sym i)) nf (open_back m b a o) (λ r. t (tangle_back_first (edge b a) f r)) (tangle_back_first (edge m b) f g)

-- the two pieces share the place of the cut alone
squeeze : (u w z x k : ℤ) → int_min u w ≤ℤ z → z ≤ℤ int_max u w → (int_min u z *ℤ k) ≤ℤ x → x ≤ℤ (int_max u z *ℤ k) → (int_min z w *ℤ k) ≤ℤ x → x ≤ℤ (int_max z w *ℤ k) → x ≡ z *ℤ k
squeeze u w z x k h i least greatest further most = elim (either u w) [
  | inl l ↦ both (z *ℤ k) (subst (λ (m : ℤ). (m *ℤ k) ≤ℤ x) (lower l) further) (subst (λ (m : ℤ). x ≤ℤ (m *ℤ k)) (upper l) greatest)
  | inr l ↦ both (z *ℤ k) (subst (λ (m : ℤ). (m *ℤ k) ≤ℤ x) (lower_back l) least) (subst (λ (m : ℤ). x ≤ℤ (m *ℤ k)) (upper_back l) most)
]
  where
    both : (m : ℤ) → m ≤ℤ x → x ≤ℤ m → x ≡ m
    both m f g = omega (arith, ints)

    lower : u ≤ℤ w → int_min z w ≡ z
    lower l = omega (arith, ints, clamps)

    upper : u ≤ℤ w → int_max u z ≡ z
    upper l = omega (arith, ints, clamps)

    lower_back : w <ℤ u → int_min u z ≡ z
    lower_back l = omega (arith, ints, clamps)

    upper_back : w <ℤ u → int_max z w ≡ z
    upper_back l = omega (arith, ints, clamps)

pub pieces_free : (a b m : Point) → IsOnOpen m a b → ¬ (DoEdgesTangle (edge a m) (edge m b))
pieces_free a b m o g = tangle_shares a m m b (λ i. o.not_a (sym i)) o.not_b g (one_end m (inr refl) (inl refl) (λ q s. record {
  x_is = squeeze a.x b.x m.x q.x q.k o.right_of_least o.left_of_greatest s.on_first.right_of_least s.on_first.left_of_greatest s.on_second.right_of_least s.on_second.left_of_greatest;
  y_is = squeeze a.y b.y m.y q.y q.k o.above_least o.below_greatest s.on_first.above_least s.on_first.below_greatest s.on_second.above_least s.on_second.below_greatest;
}))

-- ---- in a list
abbrev pub whole_list : Point → Point → List Edge → List Edge → List Edge
whole_list a b before after = before ++ edge a b ∷ after

abbrev pub cut_list : Point → Point → Point → List Edge → List Edge → List Edge
cut_list a b m before after = before ++ edge a m ∷ edge m b ∷ after

row_cut : (P : Edge → Type 0) (a b m : Point) (before after : List Edge) → (P (edge a b) → P (edge a m) × P (edge m b)) → AllByRecursion P (whole_list a b before after) → AllByRecursion P (cut_list a b m before after)
row_cut P a b m before after f h = from (all_second P before (edge a b ∷ after) h)
  where
    from : AllByRecursion P (edge a b ∷ after) → AllByRecursion P (cut_list a b m before after)
    from r = all_append P before (edge a m ∷ edge m b ∷ after) (all_first P before (edge a b ∷ after) h) ((f r.0).0, ((f r.0).1, r.1))

pub free_cut : (a b m : Point) (before after : List Edge) → IsOnOpen m a b → AllByRecursion IsEdge (whole_list a b before after) → AreFreeOf DoEdgesTangle (whole_list a b before after) → AreFreeOf DoEdgesTangle (cut_list a b m before after)
free_cut a b m [] after o n h = (
  (pieces_free a b m o, all_both IsEdge (λ f. ¬ (DoEdgesTangle (edge a b) f)) (λ f. ¬ (DoEdgesTangle (edge a m) f)) (λ f nf t. piece_free a b m f n.0 nf o t) after n.1 h.0),
  (all_both IsEdge (λ f. ¬ (DoEdgesTangle (edge a b) f)) (λ f. ¬ (DoEdgesTangle (edge m b) f)) (λ f nf t. rest_free a b m f n.0 nf o t) after n.1 h.0, h.1),
)
free_cut a b m (f ∷ before) after o n h = (
  row_cut (λ g. ¬ (DoEdgesTangle f g)) a b m before after (λ t. (
    λ g. piece_free a b m f (whole_edge n.1) n.0 o (λ r. t (tangle_turned a b f.a f.b r)) (tangle_turned f.a f.b a m g),
    λ g. rest_free a b m f (whole_edge n.1) n.0 o (λ r. t (tangle_turned a b f.a f.b r)) (tangle_turned f.a f.b m b g),
  )) h.0,
  free_cut a b m before after o n.1 h.1,
)
  where
    whole_edge : AllByRecursion IsEdge (whole_list a b before after) → ¬ (a ≡ b)
    whole_edge n = (all_second IsEdge before (edge a b ∷ after) n).0

-- ---- closed, and the same winding numbers
swap : (x y z : ℕ) → x + (y + z) ≡ y + (x + z)
swap x y z = omega arith

leaving_cut : (a b m w : Point) (before after : List Edge) → leaving w (cut_list a b m before after) ≡ cond (same_point m w) 1 0 + leaving w (whole_list a b before after)
leaving_cut a b m w [] after = swap (cond (same_point a w) 1 0) (cond (same_point m w) 1 0) (leaving w after)
leaving_cut a b m w (f ∷ before) after = ap (λ (n : ℕ). cond (same_point f.a w) 1 0 + n) (leaving_cut a b m w before after) ∙ swap (cond (same_point f.a w) 1 0) (cond (same_point m w) 1 0) (leaving w (whole_list a b before after))

arriving_cut : (a b m w : Point) (before after : List Edge) → arriving w (cut_list a b m before after) ≡ cond (same_point m w) 1 0 + arriving w (whole_list a b before after)
arriving_cut a b m w [] after = refl
arriving_cut a b m w (f ∷ before) after = ap (λ (n : ℕ). cond (same_point f.b w) 1 0 + n) (arriving_cut a b m w before after) ∙ swap (cond (same_point f.b w) 1 0) (cond (same_point m w) 1 0) (arriving w (whole_list a b before after))

closed_cut : (a b m : Point) (before after : List Edge) → IsClosed (whole_list a b before after) → IsClosed (cut_list a b m before after)
closed_cut a b m before after c = record { balanced = λ w. leaving_cut a b m w before after ∙ ap (λ (n : ℕ). cond (same_point m w) 1 0 + n) (c.balanced w) ∙ sym (arriving_cut a b m w before after) }

same_wind : (q : RatPoint) (a b m : Point) (before after : List Edge) → IsRational q → IsOnOpen m a b → wind q (cut_list a b m before after) ≡ wind q (whole_list a b before after)
same_wind q a b m [] after kq o = more (cross q (edge a m)) (cross q (edge m b)) (cross q (edge a b)) (wind q after) (wind_cut q a b m kq o)
  where
    more : (x y z w : ℤ) → x +ℤ (y +ℤ pos 0) ≡ z +ℤ pos 0 → x +ℤ (y +ℤ w) ≡ z +ℤ w
    more x y z w e = omega (arith, ints)
same_wind q a b m (f ∷ before) after kq o = ap (λ (z : ℤ). cross q f +ℤ z) (same_wind q a b m before after kq o)

-- ---- the law
pub region_cut : (before after : List Edge) (a b m : Point) → IsRegion (before ++ edge a b ∷ after) → IsOnOpen m a b → IsRegion (before ++ edge a m ∷ edge m b ∷ after)
region_cut before after a b m r o = record { edges = edges; closed = closed; untangled = free_cut a b m before after o r.edges r.untangled; single = single }
  where
    edges : AllByRecursion IsEdge (cut_list a b m before after)
    edges = row_cut IsEdge a b m before after (λ n. (λ i. o.not_a (sym i), o.not_b)) r.edges

    closed : IsClosed (cut_list a b m before after)
    closed = closed_cut a b m before after r.closed

    single : (q : RatPoint) → IsRational q → IsOff q (cut_list a b m before after) → IsNoneOrOne (wind q (cut_list a b m before after))
    single q kq f = from (beside q (cut_list a b m before after) (whole_list a b before after) kq edges f r.edges)
      where
        from : HasPointBeside q (cut_list a b m before after) (whole_list a b before after) → IsNoneOrOne (wind q (cut_list a b m before after))
        from p = subst IsNoneOrOne (sym (same_wind p.at a b m before after p.rational o) ∙ beside_wind q (cut_list a b m before after) (whole_list a b before after) kq closed p) (r.single p.at p.rational p.off)
