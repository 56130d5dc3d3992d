-- No directed side is one of two elements, of one domain or of two. For each side of an element exactly one of these stands, and once: its reverse as a side of an element, its reverse as a front line, the side itself as an edge of the boundary.
-- Two elements with a side in common have a common point (law Overlap). An element that had a front line or a reversed boundary edge as a side would have the jump of the winding number there against it (law Jump). The rest is the chain.
use Prim.Native.Nat.{ℕ, suc, ◌+◌, ◌≤◌}
use lib.IntN.{ℤ, pos, ◌+ℤ◌, ◌-ℤ◌}
use lib.Signed.{◌≤ℤ◌}
use mathlib.Core.Path.{◌≡◌, refl}
use mathlib.Core.List.{List, [], ◌∷◌, ◌++◌}
use mathlib.Core.Logic.{◌⊎◌, inl, inr}
use native.Mathlib.Omega.{arith}
use Rattle.std.proofs.lemmas.Int.{ints}
use Rattle.std.specs.List.{AllByRecursion, Contains}
use Rattle.grid_geom.specs.declared.Point.{Point}
use Rattle.grid_geom.specs.declared.RatPoint.{RatPoint}
use Rattle.grid_geom.specs.declared.Edge.{Edge}
use Rattle.grid_geom.specs.Plane.{IsRational}
use Rattle.grid_geom.specs.Sides.{IsOnClosed}
use Rattle.grid_geom.specs.Polygon.{sides, IsStrictlyConvex}
use Rattle.grid_geom.specs.Winding.{wind}
use Rattle.grid_geom.specs.Closed.{IsEdge, IsOff}
use mathlib.Core.Bool.{cond}
use Rattle.wind_law.specs.Chains.{back, same_edge, times}
use Rattle.wind_law.specs.Near.{HaveCommonPoint}
use Rattle.wind_law.proofs.Additive.{wind_append}
use Rattle.wind_law.proofs.Polygons.{polygon_inside}
use Rattle.wind_law.proofs.Overlap.{overlap}
use Rattle.state_law.specs.Free.{AreAlike, DoEdgesTangle, IsIn}
use Rattle.state_law.specs.Kept.{all_sides, IsNoneOrOne, IsOffState, IsKept}
use Rattle.state_law.specs.Saved.{IsElement}
use Rattle.state_law.specs.Conforming.{IsBoundary}
use Rattle.state_law.proofs.Lists.{all_append, all_first, all_second, at_edge}
use Rattle.state_law.proofs.Counts.{in_or_not, times_some, times_not_in, times_most}
use Rattle.state_law.proofs.SidesFree.{sides_untangled}
use Rattle.state_law.proofs.Untangled.{free_weaker, tangle_of_alike}
use Rattle.state_law.proofs.KeptOn.{kept_wind}
use Rattle.state_law.proofs.CentreSaved.{HasJump, jump_middle, apart_or_back, none_reversed, HasOneNear, one_near, parts_off, state_edges}
use Rattle.state_law.proofs.Saved.{one_wind, none_in_element, element_convex, one_or_none_wind}

-- ---- edges of a list by position
contains_of : (e : Edge) (es : List Edge) → IsIn e es → Contains es e
contains_of e [] i = absurd i
contains_of e (f ∷ es) (inl i) = (0, omega arith, i)
contains_of e (f ∷ es) (inr i) = let r = contains_of e es i in let lt = r.1 in (suc r.0, omega (arith, lt), r.2)

times_append : (x : Edge) (es fs : List Edge) → times x (es ++ fs) ≡ times x es + times x fs
times_append x [] fs = none (times x fs)
  where
    none : (n : ℕ) → n ≡ 0 + n
    none n = omega arith
times_append x (e ∷ es) fs = more (cond (same_edge e x) 1 0) (times x es) (times x fs) (times x (es ++ fs)) (times_append x es fs)
  where
    more : (a b c d : ℕ) → d ≡ b + c → a + d ≡ (a + b) + c
    more a b c d e = omega arith

-- the element that has the side
pub record HasSide (e : Edge) (elements : List (List Point)) : Type 0 where
  pub element : List Point
  pub among : IsElement element elements
  pub has : IsIn e (sides element)

in_append : (e : Edge) (es fs : List Edge) → IsIn e (es ++ fs) → IsIn e es ⊎ IsIn e fs
in_append e [] fs i = inr i
in_append e (f ∷ es) fs (inl i) = inl (inl i)
in_append e (f ∷ es) fs (inr i) = elim (in_append e es fs i) [ inl j ↦ inl (inr j) | inr j ↦ inr j ]

pub side_of : (e : Edge) (elements : List (List Point)) → IsIn e (all_sides elements) → HasSide e elements
side_of e [] i = absurd i
side_of e (cs ∷ elements) i = elim (in_append e (sides cs) (all_sides elements) i) [
  | inl j ↦ record { element = cs; among = inl refl; has = j }
  | inr j ↦ later (side_of e elements j)
]
  where
    later : HasSide e elements → HasSide e (cs ∷ elements)
    later r = record { element = r.element; among = inr r.among; has = r.has }

-- ---- no side twice
no_twice : (e : Edge) (elements : List (List Point)) (all_edges : List Edge) → AllByRecursion IsStrictlyConvex elements → AllByRecursion IsEdge all_edges → ((q : RatPoint) → IsRational q → IsOff q all_edges → IsOff q (all_sides elements)) → ((q : RatPoint) → IsRational q → IsOff q all_edges → wind q (all_sides elements) ≤ℤ pos 1) → times e (all_sides elements) ≤ 1
no_twice e [] all_edges v n o b = omega arith
no_twice e (cs ∷ elements) all_edges v n o b = elim (in_or_not e (sides cs)) [
  | inr m ↦ second (times e (sides cs)) (times e (all_sides elements)) (times e (sides cs ++ all_sides elements)) (times_append e (sides cs) (all_sides elements)) (times_not_in e (sides cs) m)
      (no_twice e elements all_edges v.1 n (λ q kq f. all_second (λ e. ¬ (IsOnClosed q e.a e.b)) (sides cs) (all_sides elements) (o q kq f)) (λ q kq f. less (wind q (sides cs)) (wind q (all_sides elements)) (wind_append q (sides cs) (all_sides elements)) (one_or_none_wind q cs kq v.0 (all_first (λ e. ¬ (IsOnClosed q e.a e.b)) (sides cs) (all_sides elements) (o q kq f))) (b q kq f)))
  | inl i ↦ elim (in_or_not e (all_sides elements)) [
    | inr m ↦ first (times e (sides cs)) (times e (all_sides elements)) (times e (sides cs ++ all_sides elements)) (times_append e (sides cs) (all_sides elements)) (times_most e (sides cs) (free_weaker DoEdgesTangle AreAlike tangle_of_alike (sides cs) (sides_untangled cs v.0))) (times_not_in e (all_sides elements) m)
    | inl j ↦ absurd (clash i (side_of e elements j))
  ]
]
  where
    second : (a b c : ℕ) → c ≡ a + b → a ≡ 0 → b ≤ 1 → c ≤ 1
    second a b c e f h = omega arith

    first : (a b c : ℕ) → c ≡ a + b → a ≤ 1 → b ≡ 0 → c ≤ 1
    first a b c e h f = omega arith

    less : (a b : ℤ) {c : ℤ} → c ≡ a +ℤ b → pos 0 ≤ℤ a → c ≤ℤ pos 1 → b ≤ℤ pos 1
    less a b {c} e h i = omega (arith, ints)

    two : (a b : ℤ) {c : ℤ} → c ≡ a +ℤ b → a ≡ pos 1 → pos 1 ≤ℤ b → c ≤ℤ pos 1 → ⊥
    two a b {c} e f h i = omega (arith, ints)

    clash : IsIn e (sides cs) → HasSide e elements → ⊥
    clash i r = common (overlap cs r.element e all_edges v.0 (element_convex r.element elements v.1 r.among) (contains_of e (sides cs) i) (contains_of e (sides r.element) r.has) n)
      where
        common : HaveCommonPoint cs r.element all_edges → ⊥
        common p = two (wind p.at (sides cs)) (wind p.at (all_sides elements)) (wind_append p.at (sides cs) (all_sides elements)) (polygon_inside cs p.at v.0 p.rational p.in_first)
            (one_wind p.at r.element elements p.rational v.1 (all_second (λ e. ¬ (IsOnClosed p.at e.a e.b)) (sides cs) (all_sides elements) (o p.at p.rational p.off)) r.among p.in_second) (b p.at p.rational p.off)

pub no_side_twice : (boundary others front : List Edge) (elements : List (List Point)) (e : Edge) → IsKept boundary others front elements → IsBoundary boundary others → times e (all_sides elements) ≤ 1
no_side_twice boundary others front elements e k b = no_twice e elements (others ++ (front ++ all_sides elements)) k.convex (state_edges boundary others front elements k) (λ q kq o. (parts_off others front elements q o).off_elements)
    (λ q kq o. most (wind q front) (kept_wind boundary others front elements k q) (k.single q kq (parts_off others front elements q o)) (b.at_most_once q kq (parts_off others front elements q o).off_others))
  where
    most : (f : ℤ) {s t : ℤ} → s ≡ f +ℤ t → IsNoneOrOne f → s ≤ℤ pos 1 → t ≤ℤ pos 1
    most f {s} {t} e (inl h) i = omega (arith, ints)
    most f {s} {t} e (inr h) i = omega (arith, ints)

-- ---- each side once
side_not_front : (boundary others front : List Edge) (elements : List (List Point)) (e : Edge) → IsKept boundary others front elements → IsBoundary boundary others → HasSide e elements → ¬ (IsIn e front)
side_not_front boundary others front elements e k b s f = clash (one_near boundary others front elements s.element e k (element_convex s.element elements k.convex s.among) s.has f)
  where
    different : {x : ℤ} → x ≡ pos 0 → x ≡ pos 1 → ⊥
    different {x} e f = omega (arith, ints)

    clash : HasOneNear others front elements s.element → ⊥
    clash r = different (none_in_element boundary others front elements s.element r.at k s.among r.rational r.off r.inside (b.at_most_once r.at r.rational r.off.off_others)) r.once

back_not_boundary : (boundary others front : List Edge) (elements : List (List Point)) (e : Edge) → IsKept boundary others front elements → IsBoundary boundary others → HasSide e elements → ¬ (IsIn (back e) boundary)
back_not_boundary boundary others front elements e k b s i = clash (jump_middle s.element e boundary (others ++ (front ++ all_sides elements)) v s.has b.edges b.closed (apart_or_back e boundary b.untangled i) (state_edges boundary others front elements k))
  where
    v : IsStrictlyConvex s.element
    v = element_convex s.element elements k.convex s.among

    fallen : (p q : ℤ) (m n : ℕ) (f : ℤ) {t : ℤ} → p -ℤ q ≡ pos m -ℤ pos n → m ≡ 0 → 1 ≤ n → q ≤ℤ pos 1 → p ≡ f +ℤ t → IsNoneOrOne f → pos 1 ≤ℤ t → ⊥
    fallen p q m n f {t} e g h i j (inl a) l = omega (arith, ints)
    fallen p q m n f {t} e g h i j (inr a) l = omega (arith, ints)

    clash : HasJump s.element e boundary (others ++ (front ++ all_sides elements)) → ⊥
    clash r = fallen (wind r.p boundary) (wind r.q boundary) (times e boundary) (times (back e) boundary) (wind r.p front) r.jumps (none_reversed (back e) boundary (at_edge IsEdge (back e) boundary b.edges i) b.untangled i) (times_some (back e) boundary i)
        (b.at_most_once r.q r.q_rational (parts_off others front elements r.q r.q_off).off_others) (kept_wind boundary others front elements k r.p) (k.single r.p r.p_rational (parts_off others front elements r.p r.p_off))
        (one_wind r.p s.element elements r.p_rational k.convex (parts_off others front elements r.p r.p_off).off_elements s.among r.p_inside)

pub each_side_once : (boundary others front : List Edge) (elements : List (List Point)) (e : Edge) → IsKept boundary others front elements → IsBoundary boundary others → IsIn e (all_sides elements) → times (back e) (all_sides elements) + times (back e) front + times e boundary ≡ 1
each_side_once boundary others front elements e k b i = counted (times e boundary) (times (back e) boundary) (times e front) (times (back e) front) (times e (all_sides elements)) (times (back e) (all_sides elements)) (k.chain e)
    (times_not_in (back e) boundary (back_not_boundary boundary others front elements e k b (side_of e elements i))) (times_not_in e front (side_not_front boundary others front elements e k b (side_of e elements i)))
    (times_some e (all_sides elements) i) (no_side_twice boundary others front elements e k b)
  where
    counted : (m n f g t u : ℕ) → pos m -ℤ pos n ≡ (pos f -ℤ pos g) +ℤ (pos t -ℤ pos u) → n ≡ 0 → f ≡ 0 → 1 ≤ t → t ≤ 1 → u + g + m ≡ 1
    counted m n f g t u e h i j l = omega (arith, ints)

-- ---- two domains
pub apart_domains : (boundary others front : List Edge) (elements : List (List Point)) (boundary' front' : List Edge) (elements' : List (List Point)) (e : Edge) → IsKept boundary others front elements → IsKept boundary' others front' elements'
    → ((q : RatPoint) → IsRational q → IsOff q others → pos 1 ≤ℤ wind q boundary → pos 1 ≤ℤ wind q boundary' → ⊥) → IsIn e (all_sides elements) → ¬ (IsIn e (all_sides elements'))
apart_domains boundary others front elements boundary' front' elements' e k k' d i j = clash (side_of e elements i) (side_of e elements' j)
  where
    all_edges : List Edge
    all_edges = (others ++ (front ++ all_sides elements)) ++ (others ++ (front' ++ all_sides elements'))

    least : (f : ℤ) {s t : ℤ} → s ≡ f +ℤ t → IsNoneOrOne f → pos 1 ≤ℤ t → pos 1 ≤ℤ s
    least f {s} {t} e (inl h) i = omega (arith, ints)
    least f {s} {t} e (inr h) i = omega (arith, ints)

    clash : HasSide e elements → HasSide e elements' → ⊥
    clash r s = common (overlap r.element s.element e all_edges (element_convex r.element elements k.convex r.among) (element_convex s.element elements' k'.convex s.among) (contains_of e (sides r.element) r.has) (contains_of e (sides s.element) s.has)
        (all_append IsEdge (others ++ (front ++ all_sides elements)) (others ++ (front' ++ all_sides elements')) (state_edges boundary others front elements k) (state_edges boundary' others front' elements' k')))
      where
        common : HaveCommonPoint r.element s.element all_edges → ⊥
        common p = d p.at p.rational off.off_others (least (wind p.at front) (kept_wind boundary others front elements k p.at) (k.single p.at p.rational off) (one_wind p.at r.element elements p.rational k.convex off.off_elements r.among p.in_first))
            (least (wind p.at front') (kept_wind boundary' others front' elements' k' p.at) (k'.single p.at p.rational off') (one_wind p.at s.element elements' p.rational k'.convex off'.off_elements s.among p.in_second))
          where
            off : IsOffState others front elements p.at
            off = parts_off others front elements p.at (all_first (λ e. ¬ (IsOnClosed p.at e.a e.b)) (others ++ (front ++ all_sides elements)) (others ++ (front' ++ all_sides elements')) p.off)

            off' : IsOffState others front' elements' p.at
            off' = parts_off others front' elements' p.at (all_second (λ e. ¬ (IsOnClosed p.at e.a e.b)) (others ++ (front ++ all_sides elements)) (others ++ (front' ++ all_sides elements')) p.off)
