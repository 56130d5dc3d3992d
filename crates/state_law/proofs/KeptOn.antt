-- What a run keeps is kept by gluing. In the open element the front winds once round each point before (law Inside), and so not at all after; elsewhere it winds as before.
-- Stands on Glued and Untangled, and on wind_law's Inside and Polygons.
use lib.IntN.{ℤ, pos, ◌+ℤ◌, ◌-ℤ◌}
use lib.Signed.{◌<ℤ◌, ◌≤ℤ◌}
use mathlib.Core.Path.{◌≡◌, sym, ap, ◌∙◌, subst}
use mathlib.Core.List.{List, [], ◌∷◌, ◌++◌}
use mathlib.Core.Logic.{◌⊎◌, inl, inr}
use native.Mathlib.Omega.{arith}
use Rattle.std.proofs.lemmas.Int.{ints}
use Rattle.std.specs.List.{AllByRecursion}
use Rattle.grid_geom.specs.declared.Point.{Point}
use Rattle.grid_geom.specs.declared.RatPoint.{RatPoint}
use Rattle.grid_geom.specs.declared.Edge.{Edge}
use Rattle.grid_geom.specs.Plane.{orient_rat, IsRational}
use Rattle.grid_geom.specs.Sides.{IsOnClosed}
use Rattle.grid_geom.specs.Polygon.{sides, IsStrictlyConvex, IsInPolygon, IsApart}
use Rattle.grid_geom.specs.Area.{shoelace}
use Rattle.grid_geom.specs.Winding.{wind}
use Rattle.grid_geom.specs.Closed.{IsClosed, IsEdge, IsOff}
use Rattle.grid_geom.proofs.Areas.{shoelace-append}
use Rattle.grid_geom.proofs.Signs.{either}
use Rattle.grid_geom.proofs.SharedEnds.{shares_tangle}
use Rattle.wind_law.specs.Chains.{back, IsSameChain}
use Rattle.wind_law.proofs.SameChain.{same_wind, same_area}
use Rattle.wind_law.proofs.Additive.{wind_append}
use Rattle.wind_law.proofs.Polygons.{polygon_inside, polygon_outside}
use Rattle.wind_law.proofs.Inside.{inside_polygon}
use Rattle.state_law.specs.Free.{AreInPairs, AreFreeOf, DoEdgesTangle, DoShareAnEndAtMost}
use Rattle.state_law.specs.Gluing.{glue, IsClearOf, MayBeGlued}
use Rattle.state_law.specs.Kept.{all_sides, IsNoneOrOne, IsOffState, IsKept}
use Rattle.state_law.proofs.Lists.{all_map, all_append, all_first, all_second}
use Rattle.state_law.specs.Net.{net}
use Rattle.state_law.proofs.Glued.{glued_wind, glued_closed, glued_net, net_append, chain_of}
use Rattle.state_law.proofs.GluedFree.{all_glue_sides, unglued_sides}
use Rattle.state_law.proofs.SidesFree.{sides_edges}
use Rattle.state_law.proofs.Untangled.{glued_untangled}

-- ---- inside or not
strictly_left : (q : RatPoint) (es : List Edge) → AllByRecursion (λ e. pos 0 <ℤ orient_rat e.a e.b q) es ⊎ ¬ (AllByRecursion (λ e. pos 0 <ℤ orient_rat e.a e.b q) es)
strictly_left q [] = inl tt
strictly_left q (e ∷ es) = elim (either (orient_rat e.a e.b q) (pos 0)) [
  | inl h ↦ inr (λ a. off a.0 h)
  | inr h ↦ elim (strictly_left q es) [ inl i ↦ inl (h, i) | inr n ↦ inr (λ a. n a.1) ]
]
  where
    off : {z : ℤ} → pos 0 <ℤ z → z ≤ℤ pos 0 → ⊥
    off {z} f g = omega (arith, ints)

pub inside_or_not : (q : RatPoint) (cs : List Point) → IsInPolygon q cs ⊎ ¬ (IsInPolygon q cs)
inside_or_not q cs = elim (strictly_left q (sides cs)) [ inl h ↦ inl (record { left = h }) | inr n ↦ inr (λ i. n i.left) ]

-- ---- the clauses on single lines, apart
pub all_apart : (cs : List Point) (front : List Edge) → AllByRecursion (IsClearOf cs) front → AllByRecursion (λ e. IsApart e.a e.b cs) front
all_apart cs front h = all_map (IsClearOf cs) (λ e. IsApart e.a e.b cs) (λ e c. c.apart) front h

-- ---- the front's winding number, before and after
pub wind_inside : (cs : List Point) (front : List Edge) (q : RatPoint) → AllByRecursion IsEdge front → IsClosed front → MayBeGlued cs front → IsRational q → IsInPolygon q cs → wind q front ≡ pos 1
wind_inside cs front q n c m kq i = inside_polygon cs q front m.turned n c (all_apart cs front m.clear) m.within kq i

pub glued_inside : (cs : List Point) (front : List Edge) (q : RatPoint) → AllByRecursion IsEdge front → IsClosed front → MayBeGlued cs front → IsRational q → IsInPolygon q cs → wind q (glue front cs) ≡ pos 0
glued_inside cs front q n c m kq i = gone (wind q front) (wind q (sides cs)) (wind q (glue front cs)) (glued_wind q front (sides cs)) (wind_inside cs front q n c m kq i) (polygon_inside cs q m.turned kq i)
  where
    gone : (a b c : ℤ) → a ≡ b +ℤ c → a ≡ pos 1 → b ≡ pos 1 → c ≡ pos 0
    gone a b c e f g = omega (arith, ints)

pub glued_outside : (cs : List Point) (front : List Edge) (q : RatPoint) → IsStrictlyConvex cs → IsRational q → IsOff q (sides cs) → ¬ (IsInPolygon q cs) → wind q (glue front cs) ≡ wind q front
glued_outside cs front q v kq f n = same (wind q front) (wind q (sides cs)) (wind q (glue front cs)) (glued_wind q front (sides cs)) (polygon_outside cs q v kq f n)
  where
    same : (a b c : ℤ) → a ≡ b +ℤ c → b ≡ pos 0 → c ≡ a
    same a b c e g = omega (arith, ints)

-- ---- the elements, with one more
pub more_net : (x : Edge) (elements : List (List Point)) (cs : List Point) → net x (all_sides (elements ++ cs ∷ [])) ≡ net x (all_sides elements) +ℤ net x (sides cs)
more_net x [] cs = net_append x (sides cs) [] ∙ turned (net x (sides cs))
  where
    turned : (z : ℤ) → z +ℤ (pos 0 -ℤ pos 0) ≡ (pos 0 -ℤ pos 0) +ℤ z
    turned z = omega (arith, ints)
more_net x (ds ∷ elements) cs = net_append x (sides ds) (all_sides (elements ++ cs ∷ [])) ∙ ap (λ (z : ℤ). net x (sides ds) +ℤ z) (more_net x elements cs)
    ∙ joined (net x (sides ds)) (net x (all_sides elements)) (net x (sides cs)) ∙ ap (λ (z : ℤ). z +ℤ net x (sides cs)) (sym (net_append x (sides ds) (all_sides elements)))
  where
    joined : (a b c : ℤ) → a +ℤ (b +ℤ c) ≡ (a +ℤ b) +ℤ c
    joined a b c = omega (arith, ints)

-- ---- the sums that the chain gives
kept_chain : (boundary others front : List Edge) (elements : List (List Point)) → IsKept boundary others front elements → IsSameChain boundary (front ++ all_sides elements)
kept_chain boundary others front elements k = chain_of boundary (front ++ all_sides elements) (λ x. k.chain x ∙ sym (net_append x front (all_sides elements)))

pub kept_wind : (boundary others front : List Edge) (elements : List (List Point)) → IsKept boundary others front elements → (q : RatPoint) → wind q boundary ≡ wind q front +ℤ wind q (all_sides elements)
kept_wind boundary others front elements k q = same_wind q boundary (front ++ all_sides elements) (kept_chain boundary others front elements k) ∙ wind_append q front (all_sides elements)

pub kept_area : (boundary others front : List Edge) (elements : List (List Point)) → IsKept boundary others front elements → shoelace boundary ≡ shoelace front +ℤ shoelace (all_sides elements)
kept_area boundary others front elements k = same_area boundary (front ++ all_sides elements) (kept_chain boundary others front elements k) ∙ shoelace-append front (all_sides elements)

-- what holds of all sides holds of those before and of those of the new element
pub all_before : (P : Edge → Type 0) (elements : List (List Point)) (cs : List Point) → AllByRecursion P (all_sides (elements ++ cs ∷ [])) → AllByRecursion P (all_sides elements)
all_before P [] cs h = tt
all_before P (ds ∷ elements) cs h = all_append P (sides ds) (all_sides elements) (all_first P (sides ds) (all_sides (elements ++ cs ∷ [])) h) (all_before P elements cs (all_second P (sides ds) (all_sides (elements ++ cs ∷ [])) h))

pub all_new : (P : Edge → Type 0) (elements : List (List Point)) (cs : List Point) → AllByRecursion P (all_sides (elements ++ cs ∷ [])) → AllByRecursion P (sides cs)
all_new P [] cs h = all_first P (sides cs) [] h
all_new P (ds ∷ elements) cs h = all_new P elements cs (all_second P (sides ds) (all_sides (elements ++ cs ∷ [])) h)

-- off the edges after, so off those before
pub off_before : (others front : List Edge) (elements : List (List Point)) (cs : List Point) (q : RatPoint) → IsOffState others (glue front cs) (elements ++ cs ∷ []) q → IsOffState others front elements q
off_before others front elements cs q h = record {
  off_others = h.off_others;
  off_front = unglued_sides (λ e. ¬ (IsOnClosed q e.a e.b)) front (sides cs) h.off_front (all_new (λ e. ¬ (IsOnClosed q e.a e.b)) elements cs h.off_elements);
  off_elements = all_before (λ e. ¬ (IsOnClosed q e.a e.b)) elements cs h.off_elements;
}

-- ---- the step
single_after : (boundary others front : List Edge) (elements : List (List Point)) (cs : List Point) → IsKept boundary others front elements → MayBeGlued cs front → (q : RatPoint) → IsRational q → IsOffState others (glue front cs) (elements ++ cs ∷ []) q → IsNoneOrOne (wind q (glue front cs))
single_after boundary others front elements cs k m q kq h = elim (inside_or_not q cs) [
  | inl i ↦ inl (glued_inside cs front q k.edges k.closed m kq i)
  | inr n ↦ subst IsNoneOrOne (sym (glued_outside cs front q m.turned kq (all_new (λ e. ¬ (IsOnClosed q e.a e.b)) elements cs h.off_elements) n)) (k.single q kq (off_before others front elements cs q h))
]

pub kept_on : (boundary others front : List Edge) (elements : List (List Point)) (cs : List Point) → IsKept boundary others front elements → MayBeGlued cs front → IsKept boundary others (glue front cs) (elements ++ cs ∷ [])
kept_on boundary others front elements cs k m = record {
  other_edges = k.other_edges;
  edges = all_glue_sides IsEdge front (sides cs) k.edges (all_map IsEdge (λ s. IsEdge (back s)) (λ s n e. n (sym e)) (sides cs) (sides_edges cs m.turned));
  closed = glued_closed front cs k.closed;
  untangled = glued_untangled cs front m.turned m.clear k.untangled;
  convex = all_append IsStrictlyConvex elements (cs ∷ []) k.convex (m.turned, tt);
  chain = λ x. summed (net x boundary) (net x front) (net x (all_sides elements)) (net x (sides cs)) (net x (glue front cs)) (net x (all_sides (elements ++ cs ∷ []))) (k.chain x) (glued_net x front (sides cs)) (more_net x elements cs);
  single = single_after boundary others front elements cs k m;
}
  where
    summed : (b f e t g n : ℤ) → b ≡ f +ℤ e → f ≡ g +ℤ t → n ≡ e +ℤ t → b ≡ g +ℤ n
    summed b f e t g n h i j = omega (arith, ints)

-- ---- what untangled front lines share
one_end : (e : Edge) (es : List Edge) → IsEdge e → AllByRecursion IsEdge es → AllByRecursion (λ f. ¬ (DoEdgesTangle e f)) es → AllByRecursion (DoShareAnEndAtMost e) es
one_end e [] n ns t = tt
one_end e (f ∷ es) n ns t = (shares_tangle e.a e.b f.a f.b n ns.0 t.0, one_end e es n ns.1 t.1)

pub ends_alone : (es : List Edge) → AllByRecursion IsEdge es → AreFreeOf DoEdgesTangle es → AreInPairs DoShareAnEndAtMost es
ends_alone [] n t = tt
ends_alone (e ∷ es) n t = (one_end e es n.0 n.1 t.0, ends_alone es n.1 t.1)
