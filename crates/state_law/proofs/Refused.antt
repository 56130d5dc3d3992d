-- A refused pair of base line and class stays refused, unless a witness has left or a line has joined that opens a new attempt. A reason refutes a candidate, and outlives gluing.
-- For hindering lines this is counting: how often an edge stands in the front after earlier elements, less its reverse, is its number before less that of the elements' sides. Stands on Counts, Glued, Parted and KeptOn.
use Prim.Native.Nat.{ℕ, ◌≤◌}
use lib.IntN.{ℤ, pos, ◌+ℤ◌, ◌-ℤ◌}
use lib.Signed.{◌<ℤ◌, ◌≤ℤ◌}
use mathlib.Core.Path.{◌≡◌, sym, subst}
use mathlib.Core.List.{List, [], ◌∷◌, ◌++◌}
use mathlib.Core.Logic.{◌⊎◌, inl, inr}
use native.Mathlib.Omega.{arith}
use Rattle.std.proofs.lemmas.Int.{ints}
use Rattle.std.specs.List.{AllByRecursion}
use Rattle.grid_geom.specs.declared.Point.{Point}
use Rattle.grid_geom.specs.declared.RatPoint.{RatPoint}
use Rattle.grid_geom.specs.declared.Edge.{Edge}
use Rattle.grid_geom.specs.Plane.{orient_rat}
use Rattle.grid_geom.specs.Line.{whole}
use Rattle.grid_geom.specs.Sides.{IsOnClosed}
use Rattle.grid_geom.specs.Polygon.{sides, IsStrictlyConvex, IsInPolygon, IsApart}
use Rattle.grid_geom.specs.Area.{shoelace}
use Rattle.grid_geom.specs.Winding.{wind}
use Rattle.grid_geom.specs.Closed.{IsClosed, IsEdge}
use Rattle.grid_geom.proofs.Areas.{shoelace-append}
use Rattle.wind_law.specs.Chains.{back, times}
use Rattle.wind_law.specs.Near.{IsInClosure}
use Rattle.wind_law.proofs.Additive.{wind_append}
use Rattle.state_law.specs.Free.{IsIn}
use Rattle.state_law.specs.Net.{net}
use Rattle.state_law.specs.Gluing.{glue, glue_all, IsClearOf, MayBeGlued, MayAllBeGlued}
use Rattle.state_law.specs.Kept.{all_sides}
use Rattle.state_law.specs.Saved.{IsCorner, IsFrontPoint}
use Rattle.state_law.specs.Refusal.{Attempt, IsCandidate, IsSplit, HasReason, place_taken, not_turned, line_in_zone, line_hinders, outside_front, too_large, IsRefused, IsHarmless, IsFront, IsStep}
use Rattle.state_law.proofs.Lists.{all_map, all_append, all_first, all_second, at_edge, side_ends}
use Rattle.state_law.proofs.Glued.{glued_wind, glued_area, glued_closed, glued_net, net_append, convex_area}
use Rattle.state_law.proofs.GluedFree.{all_glue_sides}
use Rattle.state_law.proofs.SidesFree.{sides_edges}
use Rattle.state_law.proofs.Untangled.{glued_single}
use Rattle.state_law.proofs.Parted.{HasAlikeNear, alike_near}
use Rattle.state_law.proofs.KeptOn.{wind_inside}
use Rattle.state_law.proofs.Saved.{at_corner, least_wind, point_in_zone}
use Rattle.state_law.proofs.Counts.{in_or_not, times_not_in, in_by_times, times_most, times_some, net_in}

-- ---- what a front keeps along elements
edges_after : (cs : List Point) (front : List Edge) → IsStrictlyConvex cs → AllByRecursion IsEdge front → AllByRecursion IsEdge (glue front cs)
edges_after cs front v n = all_glue_sides IsEdge front (sides cs) n (all_map IsEdge (λ s. IsEdge (back s)) (λ s n e. n (sym e)) (sides cs) (sides_edges cs v))

pub front_after : (cs : List Point) (front : List Edge) → MayBeGlued cs front → IsFront front → IsFront (glue front cs)
front_after cs front m f = record {
  edges = edges_after cs front m.turned f.edges;
  closed = glued_closed front cs f.closed;
  single = glued_single cs front m.turned (all_map (IsClearOf cs) (λ e. AllByRecursion (λ s. ¬ (e ≡ back s)) (sides cs)) (λ e c. c.not_backwards) front m.clear) f.single;
}

pub front_all : (elements : List (List Point)) (front : List Edge) → MayAllBeGlued elements front → IsFront front → IsFront (glue_all front elements)
front_all [] front m f = f
front_all (cs ∷ elements) front m f = front_all elements (glue front cs) m.1 (front_after cs front m.0 f)

edges_all : (elements : List (List Point)) (front : List Edge) → AllByRecursion IsStrictlyConvex elements → AllByRecursion IsEdge front → AllByRecursion IsEdge (glue_all front elements)
edges_all [] front v n = n
edges_all (cs ∷ elements) front v n = edges_all elements (glue front cs) v.1 (edges_after cs front v.0 n)

closed_all : (elements : List (List Point)) (front : List Edge) → IsClosed front → IsClosed (glue_all front elements)
closed_all [] front c = c
closed_all (cs ∷ elements) front c = closed_all elements (glue front cs) (glued_closed front cs c)

convex_all : (elements : List (List Point)) (front : List Edge) → MayAllBeGlued elements front → AllByRecursion IsStrictlyConvex elements
convex_all [] front m = tt
convex_all (cs ∷ elements) front m = (m.0.turned, convex_all elements (glue front cs) m.1)

-- ---- sums along elements
all_wind : (q : RatPoint) (elements : List (List Point)) (front : List Edge) → wind q front ≡ wind q (all_sides elements) +ℤ wind q (glue_all front elements)
all_wind q [] front = none (wind q front)
  where
    none : (a : ℤ) → a ≡ pos 0 +ℤ a
    none a = omega (arith, ints)
all_wind q (cs ∷ elements) front = joined (wind q front) (wind q (sides cs)) (wind q (glue front cs)) (wind q (all_sides elements)) (wind q (glue_all (glue front cs) elements)) (wind q (sides cs ++ all_sides elements)) (glued_wind q front (sides cs)) (all_wind q elements (glue front cs)) (wind_append q (sides cs) (all_sides elements))
  where
    joined : (a b c d e f : ℤ) → a ≡ b +ℤ c → c ≡ d +ℤ e → f ≡ b +ℤ d → a ≡ f +ℤ e
    joined a b c d e f g h i = omega (arith, ints)

all_area : (elements : List (List Point)) (front : List Edge) → shoelace front ≡ shoelace (all_sides elements) +ℤ shoelace (glue_all front elements)
all_area [] front = none (shoelace front)
  where
    none : (a : ℤ) → a ≡ pos 0 +ℤ a
    none a = omega (arith, ints)
all_area (cs ∷ elements) front = joined (shoelace front) (shoelace (sides cs)) (shoelace (glue front cs)) (shoelace (all_sides elements)) (shoelace (glue_all (glue front cs) elements)) (shoelace (sides cs ++ all_sides elements)) (glued_area front (sides cs)) (all_area elements (glue front cs)) (shoelace-append (sides cs) (all_sides elements))
  where
    joined : (a b c d e f : ℤ) → a ≡ b +ℤ c → c ≡ d +ℤ e → f ≡ b +ℤ d → a ≡ f +ℤ e
    joined a b c d e f g h i = omega (arith, ints)

pub all_net : (x : Edge) (elements : List (List Point)) (front : List Edge) → net x front ≡ net x (all_sides elements) +ℤ net x (glue_all front elements)
all_net x [] front = none (net x front)
  where
    none : (a : ℤ) → a ≡ (pos 0 -ℤ pos 0) +ℤ a
    none a = omega (arith, ints)
all_net x (cs ∷ elements) front = joined (net x front) (net x (sides cs)) (net x (glue front cs)) (net x (all_sides elements)) (net x (glue_all (glue front cs) elements)) (net x (sides cs ++ all_sides elements)) (glued_net x front (sides cs)) (all_net x elements (glue front cs)) (net_append x (sides cs) (all_sides elements))
  where
    joined : (a b c d e f : ℤ) → a ≡ c +ℤ b → c ≡ d +ℤ e → f ≡ b +ℤ d → a ≡ f +ℤ e
    joined a b c d e f g h i = omega (arith, ints)

least_area : (elements : List (List Point)) → AllByRecursion IsStrictlyConvex elements → pos 0 ≤ℤ shoelace (all_sides elements)
least_area [] v = omega (arith, ints)
least_area (cs ∷ elements) v = more (shoelace-append (sides cs) (all_sides elements)) (convex_area cs v.0) (least_area elements v.1)
  where
    more : {a b c : ℤ} → a ≡ b +ℤ c → pos 0 <ℤ b → pos 0 ≤ℤ c → pos 0 ≤ℤ a
    more {a} {b} {c} e h i = omega (arith, ints)

-- ---- a reason refutes a candidate
may_split : (before : List (List Point)) (cs : List Point) (after : List (List Point)) (front : List Edge) → MayAllBeGlued (before ++ cs ∷ after) front → MayAllBeGlued before front × MayBeGlued cs (glue_all front before)
may_split [] cs after front m = (tt, m.0)
may_split (ds ∷ before) cs after front m = let r = may_split before cs after (glue front ds) m.1 in ((m.0, r.0), r.1)

split_may : (t : Attempt) (before : List (List Point)) (cs : List Point) (after : List (List Point)) (front : List Edge) → IsSplit t.elements before cs after → MayAllBeGlued t.elements front → MayAllBeGlued before front × MayBeGlued cs (glue_all front before)
split_may t before cs after front s m = may_split before cs after front (subst (λ (l : List (List Point)). MayAllBeGlued l front) s.joined m)

hinders_in : (w : Edge) (before : List (List Point)) (front : List Edge) → pos 1 ≤ℤ (net w front -ℤ net w (all_sides before)) → IsIn w (glue_all front before)
hinders_in w before front h = in_by_times w (glue_all front before) (some (net w front) (net w (all_sides before)) (times w (glue_all front before)) (times (back w) (glue_all front before)) (all_net w before front) h)
  where
    some : (a b : ℤ) (m n : ℕ) → a ≡ b +ℤ (pos m -ℤ pos n) → pos 1 ≤ℤ (a -ℤ b) → 1 ≤ m
    some a b m n e h = omega (arith, ints)

pub refuted : (Allowed : Attempt → Type 0) (points : List Point) (front witnesses : List Edge) (t : Attempt) → IsFront front → HasReason points front witnesses t → ¬ (IsCandidate Allowed points front t)
refuted Allowed points front witnesses t f (place_taken p i j) c = at_corner (λ p. ¬ (IsCorner p points)) p t.made c.at_new_places i j
refuted Allowed points front witnesses t f (not_turned before cs after s n) c = n (split_may t before cs after front s c.glued).1.turned
refuted Allowed points front witnesses t f (line_in_zone w i j n m) c = elim (at_edge (λ e. IsIn e t.lines ⊎ IsApart e.a e.b t.zone) w front c.no_line_in_zone j) [ inl k ↦ n k | inr k ↦ m k ]
refuted Allowed points front witnesses t f (line_hinders before cs after s w i h n) c = n (at_edge (IsClearOf cs) w (glue_all front before) (split_may t before cs after front s c.glued).1.clear (hinders_in w before front h))
refuted Allowed points front witnesses t f (outside_front before cs after s v u q kq i o h) c = off (wind_inside cs (glue_all front before) q (edges_all before front v f.edges) (closed_all before front f.closed) (split_may t before cs after front s c.glued).1 kq i) h
  where
    off : {a : ℤ} → a ≡ pos 1 → a ≤ℤ pos 0 → ⊥
    off {a} e h = omega (arith, ints)
refuted Allowed points front witnesses t f (too_large before cs after s h) c = off (split_may t before cs after front s c.glued).1.covered h
  where
    off : {a b : ℤ} → a ≤ℤ b → b <ℤ a → ⊥
    off {a} {b} e h = omega (arith, ints)

-- so a refused pair has no candidate
pub refused_none : (Allowed : Attempt → Type 0) (points : List Point) (front witnesses : List Edge) → IsFront front → IsRefused Allowed points front witnesses → (t : Attempt) → ¬ (IsCandidate Allowed points front t)
refused_none Allowed points front witnesses f r t c = refuted Allowed points front witnesses t f (r t c.allowed c.fits) c

-- ---- an attempt that fits after, fitted before
front_point : (Near : Point → Type 0) (front after : List Edge) (p : Point) → AllByRecursion (λ e. IsIn e front ⊎ IsHarmless Near front e) after → Near p → IsFrontPoint after p → IsFrontPoint front p
front_point Near front [] p h n i = absurd i
front_point Near front (e ∷ after) p h n (inr i) = front_point Near front after p h.1 n i
front_point Near front (e ∷ after) p h n (inl i) = cases h.0 i
  where
    of_line : (es : List Edge) → IsIn e es → (p ≡ e.a) ⊎ (p ≡ e.b) → IsFrontPoint es p
    of_line [] j i = absurd j
    of_line (f ∷ es) (inl j) i = inl (subst (λ (z : Edge). (p ≡ z.a) ⊎ (p ≡ z.b)) (sym j) i)
    of_line (f ∷ es) (inr j) i = inr (of_line es j i)

    cases : IsIn e front ⊎ IsHarmless Near front e → (p ≡ e.a) ⊎ (p ≡ e.b) → IsFrontPoint front p
    cases (inl j) i = of_line front j i
    cases (inr m) (inl i) = subst (IsFrontPoint front) (sym i) (m.start_known (subst Near i n))
    cases (inr m) (inr i) = subst (IsFrontPoint front) (sym i) (m.end_known (subst Near i n))

front_points : (Near : Point → Type 0) (front after : List Edge) (ps : List Point) → AllByRecursion (λ e. IsIn e front ⊎ IsHarmless Near front e) after → AllByRecursion Near ps → AllByRecursion (IsFrontPoint after) ps → AllByRecursion (IsFrontPoint front) ps
front_points Near front after [] h n i = tt
front_points Near front after (p ∷ ps) h n i = (front_point Near front after p h n.0 i.0, front_points Near front after ps h n.1 i.1)

front_lines : (Near : Point → Type 0) (front after ls : List Edge) (mapped : List Point) → AllByRecursion (λ e. IsIn e front ⊎ IsHarmless Near front e) after → AllByRecursion Near mapped → AllByRecursion (λ e. IsCorner e.a mapped × IsCorner e.b mapped) ls → AllByRecursion (λ e. IsIn e after) ls → AllByRecursion (λ e. IsIn e front) ls
front_lines Near front after [] mapped h n j i = tt
front_lines Near front after (e ∷ ls) mapped h n j i = (cases (at_edge (λ e. IsIn e front ⊎ IsHarmless Near front e) e after h i.0), front_lines Near front after ls mapped h n j.1 i.1)
  where
    cases : IsIn e front ⊎ IsHarmless Near front e → IsIn e front
    cases (inl k) = k
    cases (inr m) = absurd (m.not_both (at_corner Near e.a mapped n j.0.0) (at_corner Near e.b mapped n j.0.1))

-- ---- the step
pub still_corner : (p : Point) (ps qs : List Point) → IsCorner p ps → IsCorner p (ps ++ qs)
still_corner p [] qs i = absurd i
still_corner p (r ∷ ps) qs (inl i) = inl i
still_corner p (r ∷ ps) qs (inr i) = inr (still_corner p ps qs i)

weak : {z : ℤ} → pos 1 ≤ℤ z → pos 0 ≤ℤ z
weak {z} h = omega (arith, ints)

kept_reason : (Allowed : Attempt → Type 0) (Near : Point → Type 0) (points more : List Point) (front : List Edge) (elements : List (List Point)) (witnesses : List Edge) (t : Attempt) → IsStep Allowed Near points more front elements witnesses → Allowed t
    → HasReason points front witnesses t → HasReason (points ++ more) (glue_all front elements) witnesses t
kept_reason Allowed Near points more front elements witnesses t s a (place_taken p i j) = place_taken p i (still_corner p points more j)
kept_reason Allowed Near points more front elements witnesses t s a (not_turned before cs after e n) = not_turned before cs after e n
kept_reason Allowed Near points more front elements witnesses t s a (line_in_zone w i j n m) = line_in_zone w i (at_edge (λ w. IsIn w front → IsIn w (glue_all front elements)) w witnesses s.untouched.stay i j) n m
kept_reason Allowed Near points more front elements witnesses t s a (too_large before cs after e h) = too_large before cs after e (smaller (shoelace front) (shoelace (all_sides elements)) (shoelace (glue_all front elements)) (shoelace (all_sides before)) (shoelace (glue_all front before)) (shoelace (glue_all (glue_all front elements) before)) (shoelace (sides cs))
    (all_area elements front) (all_area before front) (all_area before (glue_all front elements)) (least_area elements (convex_all elements front s.glued)) h)
  where
    smaller : (f t g b c d s : ℤ) → f ≡ t +ℤ g → f ≡ b +ℤ c → g ≡ b +ℤ d → pos 0 ≤ℤ t → c <ℤ s → d <ℤ s
    smaller f t g b c d s h i j k l = omega (arith, ints)
kept_reason Allowed Near points more front elements witnesses t s a (outside_front before cs after e v u q kq i o h) = near_by (alike_near q cs (glue_all front before) (glue_all (glue_all front elements) before ++ all_sides elements) kq u (closure i) (edges_all before front v s.is_front.edges) (closed_all before front s.is_front.closed) o
    (all_append IsEdge (glue_all (glue_all front elements) before) (all_sides elements) (edges_all before (glue_all front elements) v (front_all elements front s.glued s.is_front).edges) (sides_edges_all elements (convex_all elements front s.glued))))
  where
    sides_edges_all : (elements : List (List Point)) → AllByRecursion IsStrictlyConvex elements → AllByRecursion IsEdge (all_sides elements)
    sides_edges_all [] h = tt
    sides_edges_all (ds ∷ elements) h = all_append IsEdge (sides ds) (all_sides elements) (sides_edges ds h.0) (sides_edges_all elements h.1)

    closure : IsInPolygon q cs → IsInClosure q cs
    closure i = record { left = all_map (λ e. pos 0 <ℤ orient_rat e.a e.b q) (λ e. pos 0 ≤ℤ orient_rat e.a e.b q) (λ e h. at_least h) (sides cs) i.left }
      where
        at_least : {z : ℤ} → pos 0 <ℤ z → pos 0 ≤ℤ z
        at_least {z} h = omega (arith, ints)

    smaller : (f t g b c d : ℤ) → f ≡ t +ℤ g → f ≡ b +ℤ c → g ≡ b +ℤ d → pos 0 ≤ℤ t → c ≤ℤ pos 0 → d ≤ℤ pos 0
    smaller f t g b c d h i j k l = omega (arith, ints)

    at_most : {x y : ℤ} → x ≡ y → y ≤ℤ pos 0 → x ≤ℤ pos 0
    at_most {x} {y} e h = omega (arith, ints)

    near_by : HasAlikeNear q cs (glue_all front before) (glue_all (glue_all front elements) before ++ all_sides elements) → HasReason (points ++ more) (glue_all front elements) witnesses t
    near_by r = outside_front before cs after e v u r.at r.rational r.inside (all_first (λ e. ¬ (IsOnClosed r.at e.a e.b)) (glue_all (glue_all front elements) before) (all_sides elements) r.off)
        (smaller (wind r.at front) (wind r.at (all_sides elements)) (wind r.at (glue_all front elements)) (wind r.at (all_sides before)) (wind r.at (glue_all front before)) (wind r.at (glue_all (glue_all front elements) before))
        (all_wind r.at elements front) (all_wind r.at before front) (all_wind r.at before (glue_all front elements))
        (least_wind r.at elements r.rational (convex_all elements front s.glued) (all_second (λ e. ¬ (IsOnClosed r.at e.a e.b)) (glue_all (glue_all front elements) before) (all_sides elements) r.off)) (at_most r.alike h))
kept_reason Allowed Near points more front elements witnesses t s a (line_hinders before cs after e w i h n) = elim (in_or_not w front) [
  | inl j ↦ line_hinders before cs after e w (λ k. i j) (stays j) n
  | inr m ↦ not_front m
]
  where
    now : List Edge
    now = glue_all front elements

    is_now : IsFront now
    is_now = front_all elements front s.glued s.is_front

    -- a front line w that is a witness is still there
    stays : IsIn w front → pos 1 ≤ℤ (net w now -ℤ net w (all_sides before))
    stays j = still (times w front) (times (back w) front) (net w now) (net w (all_sides before)) (times_most w front s.is_front.single) (net_in w now (at_edge IsEdge w now is_now.edges there) is_now.single there) h
      where
        there : IsIn w now
        there = at_edge (λ w. IsIn w front → IsIn w now) w witnesses s.untouched.stay (i j) j

        still : (k l : ℕ) (y z : ℤ) → k ≤ 1 → pos 1 ≤ℤ y → pos 1 ≤ℤ (pos k -ℤ pos l -ℤ z) → pos 1 ≤ℤ (y -ℤ z)
        still k l y z f g h = omega (arith, ints)

    -- else w is a side reversed, and both its ends are mapped or made
    known : ¬ (IsIn w front) → (IsCorner w.b t.mapped ⊎ IsCorner w.b t.made) × (IsCorner w.a t.mapped ⊎ IsCorner w.a t.made)
    known m = at_edge (λ x. (IsCorner x.a t.mapped ⊎ IsCorner x.a t.made) × (IsCorner x.b t.mapped ⊎ IsCorner x.b t.made)) (back w) (all_sides before)
        (ends before (all_first (λ ds. AllByRecursion (λ c. IsCorner c t.mapped ⊎ IsCorner c t.made) ds) before (cs ∷ after) (subst (λ (l : List (List Point)). AllByRecursion (λ ds. AllByRecursion (λ c. IsCorner c t.mapped ⊎ IsCorner c t.made) ds) l) e.joined (s.near.corners_known t a))))
        (in_by_times (back w) (all_sides before) (some (times w front) (times (back w) front) (times w (all_sides before)) (times (back w) (all_sides before)) (times_not_in w front m) h))
      where
        ends : (elements : List (List Point)) → AllByRecursion (λ ds. AllByRecursion (λ c. IsCorner c t.mapped ⊎ IsCorner c t.made) ds) elements → AllByRecursion (λ x. (IsCorner x.a t.mapped ⊎ IsCorner x.a t.made) × (IsCorner x.b t.mapped ⊎ IsCorner x.b t.made)) (all_sides elements)
        ends [] h = tt
        ends (ds ∷ elements) h = all_append (λ x. (IsCorner x.a t.mapped ⊎ IsCorner x.a t.made) × (IsCorner x.b t.mapped ⊎ IsCorner x.b t.made)) (sides ds) (all_sides elements) (side_ends (λ c. IsCorner c t.mapped ⊎ IsCorner c t.made) ds h.0) (ends elements h.1)

        some : (k l m n : ℕ) → k ≡ 0 → pos 1 ≤ℤ (pos k -ℤ pos l -ℤ (pos m -ℤ pos n)) → 1 ≤ n
        some k l m n e h = omega (arith, ints)

    -- a line between places that are mapped or made has not joined, or a made place is now taken
    joined : (x : Edge) → (IsCorner x.a t.mapped ⊎ IsCorner x.a t.made) × (IsCorner x.b t.mapped ⊎ IsCorner x.b t.made) → IsIn x now → IsIn x front ⊎ HasReason (points ++ more) now witnesses t
    joined x k j = cases k.0 k.1 (at_edge (λ e. IsIn e front ⊎ IsHarmless Near front e) x now s.untouched.joined j)
      where
        at : IsCorner x.a (points ++ more) × IsCorner x.b (points ++ more)
        at = at_edge (λ e. IsCorner e.a (points ++ more) × IsCorner e.b (points ++ more)) x now s.listed j

        cases : IsCorner x.a t.mapped ⊎ IsCorner x.a t.made → IsCorner x.b t.mapped ⊎ IsCorner x.b t.made → IsIn x front ⊎ IsHarmless Near front x → IsIn x front ⊎ HasReason (points ++ more) now witnesses t
        cases y z (inl i) = inl i
        cases (inr y) z (inr m) = inr (place_taken x.a y at.0)
        cases (inl y) (inr z) (inr m) = inr (place_taken x.b z at.1)
        cases (inl y) (inl z) (inr m) = absurd (m.not_both (at_corner Near x.a t.mapped (s.near.mapped_near t a) y) (at_corner Near x.b t.mapped (s.near.mapped_near t a) z))

    not_front : ¬ (IsIn w front) → HasReason (points ++ more) now witnesses t
    not_front m = elim (in_or_not w now) [
      | inl j ↦ elim (joined w ((known m).1, (known m).0) j) [ inl k ↦ absurd (m k) | inr r ↦ r ]
      | inr l ↦ elim (in_or_not (back w) now) [
        | inr k ↦ line_hinders before cs after e w (λ j. absurd (l j)) (never (times w front) (times (back w) front) (times w now) (times (back w) now) (net w (all_sides before)) (times_not_in w front m) (times_not_in (back w) now k) h) n
        | inl k ↦ elim (joined (back w) (known m) k) [
          | inr r ↦ r
          | inl f ↦ line_hinders before cs after e w (λ j. absurd (l j)) (both (times w front) (times (back w) front) (times w now) (times (back w) now) (net w (all_sides before)) (times_not_in w front m) (times_some (back w) front f) (times_most (back w) now is_now.single) h) n
        ]
      ]
    ]
      where
        never : (k l m n : ℕ) (z : ℤ) → k ≡ 0 → n ≡ 0 → pos 1 ≤ℤ (pos k -ℤ pos l -ℤ z) → pos 1 ≤ℤ (pos m -ℤ pos n -ℤ z)
        never k l m n z e f h = omega (arith, ints)

        both : (k l m n : ℕ) (z : ℤ) → k ≡ 0 → 1 ≤ l → n ≤ 1 → pos 1 ≤ℤ (pos k -ℤ pos l -ℤ z) → pos 1 ≤ℤ (pos m -ℤ pos n -ℤ z)
        both k l m n z e f g h = omega (arith, ints)

pub kept_refusal : (Allowed : Attempt → Type 0) (Near : Point → Type 0) (points more : List Point) (front : List Edge) (elements : List (List Point)) (witnesses : List Edge) → IsStep Allowed Near points more front elements witnesses → IsRefused Allowed points front witnesses → IsRefused Allowed (points ++ more) (glue_all front elements) witnesses
kept_refusal Allowed Near points more front elements witnesses s r t a f = kept_reason Allowed Near points more front elements witnesses t s a (r t a (record {
  points = front_points Near front (glue_all front elements) t.mapped s.untouched.joined (s.near.mapped_near t a) f.points;
  lines = front_lines Near front (glue_all front elements) t.lines t.mapped s.untouched.joined (s.near.mapped_near t a) (s.near.lines_join t a) f.lines;
}))

-- ---- a front point in the zone that is not mapped: its line hinders
pub point_hinders : (t : Attempt) (e : Edge) (p : Point) → AllByRecursion (λ l. IsCorner l.a t.mapped × IsCorner l.b t.mapped) t.lines → IsStrictlyConvex t.zone → IsEdge e → (p ≡ e.a) ⊎ (p ≡ e.b) → ¬ (IsCorner p t.mapped) → IsInPolygon (whole p) t.zone → ¬ (IsIn e t.lines) × ¬ (IsApart e.a e.b t.zone)
point_hinders t e p j v n i m z = (λ k. unmapped i (at_edge (λ l. IsCorner l.a t.mapped × IsCorner l.b t.mapped) e t.lines j k), point_in_zone t.zone e p v n i z)
  where
    unmapped : (p ≡ e.a) ⊎ (p ≡ e.b) → IsCorner e.a t.mapped × IsCorner e.b t.mapped → ⊥
    unmapped (inl h) k = m (subst (λ (c : Point). IsCorner c t.mapped) (sym h) k.0)
    unmapped (inr h) k = m (subst (λ (c : Point). IsCorner c t.mapped) (sym h) k.1)
