-- Law Inside: a closed list of edges that are all apart from an open polygon winds alike round all its points; so once, if it winds once round the centre.
-- From each edge a line parts any two points of the polygon: the line of the side that the edge is outside of, or the edge's own line. Stands on Uncrossed, Corners, and grid_geom's Polygon.
use Prim.Native.Nat.{ℕ, suc}
use lib.IntN.{ℤ, pos, ◌+ℤ◌, ◌-ℤ◌, ◌*ℤ◌}
use lib.ListN.{length}
use lib.Signed.{◌<ℤ◌, ◌≤ℤ◌}
use mathlib.Core.Path.{◌≡◌, refl, sym, ap, ◌∙◌, subst}
use mathlib.Core.List.{List, [], ◌∷◌}
use native.Mathlib.Omega.{arith}
use Rattle.std.proofs.lemmas.Int.{ints}
use Rattle.std.proofs.lemmas.List.Elements.{recursion_from_All, All-from_recursion, All-get_or}
use Rattle.std.specs.List.{Any, AllByRecursion}
use Rattle.grid_geom.specs.declared.Point.{Point}
use Rattle.grid_geom.specs.declared.RatPoint.{RatPoint}
use Rattle.grid_geom.specs.declared.Edge.{Edge}
use Rattle.grid_geom.specs.Plane.{orient, orient_rat, IsRational}
use Rattle.grid_geom.specs.Line.{side, whole, through}
use Rattle.grid_geom.specs.Polygon.{sides, IsStrictlyConvex, IsInPolygon, IsApart, outside_a_side, all_left, all_right}
use Rattle.grid_geom.specs.Winding.{wind}
use Rattle.grid_geom.specs.Closed.{IsClosed, IsEdge}
use Rattle.grid_geom.proofs.Ring.{var, num, ◌⊕◌, ◌⊖◌, ◌⊗◌, ring}
use Rattle.grid_geom.proofs.Lines.{through_is, orient_whole, orient_back}
use Rattle.grid_geom.proofs.Triangle.{mean_k, centre as third}
use Rattle.grid_geom.proofs.Signs.{pos_factor}
use Rattle.grid_geom.proofs.Convex.{inside_lines, triangle_convex}
use Rattle.grid_geom.proofs.Polygon.{IsFan, AreLeftOf, polygon_left}
use Rattle.wind_law.specs.Centre.{centre, sum_x, sum_y}
use Rattle.wind_law.proofs.Counting.{total}
use Rattle.wind_law.proofs.Uncrossed.{IsPartedByLine, uncrossed}
use Rattle.wind_law.proofs.EdgeLines.{line_start, line_end, line_directed}
use Rattle.wind_law.proofs.Corners.{IsEndOrLeft}
use Rattle.wind_law.proofs.Polygons.{by_corners, weak_ends, third_inside, centre_third}

abbrev IsInside : RatPoint → List Point → Type 0
IsInside q cs = AllByRecursion (λ e. pos 0 <ℤ orient_rat e.a e.b q) (sides cs)

at_whole : (c d p : Point) → side (through c d) (whole p) ≡ orient c d p
at_whole c d p = through_is c d (whole p) ∙ orient_whole c d p

-- ---- an edge that is apart from the polygon
beyond_side : (p q : RatPoint) (e s : Edge) → orient s.a s.b e.a ≤ℤ pos 0 → orient s.a s.b e.b ≤ℤ pos 0 → pos 0 <ℤ orient_rat s.a s.b p → pos 0 <ℤ orient_rat s.a s.b q → IsPartedByLine p q e
beyond_side p q e s h i hp hq = record {
  line = through s.a s.b;
  start_right = subst (λ (z : ℤ). z ≤ℤ pos 0) (sym (at_whole s.a s.b e.a)) h;
  end_right = subst (λ (z : ℤ). z ≤ℤ pos 0) (sym (at_whole s.a s.b e.b)) i;
  p_left = subst (λ (z : ℤ). pos 0 <ℤ z) (sym (through_is s.a s.b p)) hp;
  q_left = subst (λ (z : ℤ). pos 0 <ℤ z) (sym (through_is s.a s.b q)) hq;
}

-- what holds of each holds of the one that is named
at_named : (P : Edge → Type 0) (Q : Edge → Type 0) (es : List Edge) → AllByRecursion Q es → (n : Any P es) → Q (n.1)
at_named P Q es all n = subst Q n.3 (All-get_or Q es n.0 n.1 n.2 (All-from_recursion Q es all))

lines_left : (c d : Point) (cs : List Point) → AllByRecursion (λ p. pos 0 ≤ℤ orient c d p) cs → AreLeftOf (through c d) cs
lines_left c d [] h = tt
lines_left c d (p ∷ cs) h = (subst (λ (z : ℤ). pos 0 ≤ℤ z) (sym (at_whole c d p)) h.0, lines_left c d cs h.1)

own_line : (c d o u : Point) (ws : List Point) (q : RatPoint) → ¬ (c ≡ d) → IsFan o u ws → AllByRecursion (λ p. pos 0 ≤ℤ orient c d p) (o ∷ u ∷ ws) → IsInside q (o ∷ u ∷ ws) → pos 0 <ℤ side (through c d) q
own_line c d o u ws q n f h i = polygon_left (through c d) o u ws q (record { fan = f }) (line_directed c d n) (lines_left c d (o ∷ u ∷ ws) h).0 (lines_left c d (o ∷ u ∷ ws) h).1.0 (lines_left c d (o ∷ u ∷ ws) h).1.1
    (inside_lines q (sides (o ∷ u ∷ ws)) i)

back_left : (c d : Point) (cs : List Point) → AllByRecursion (λ p. orient c d p ≤ℤ pos 0) cs → AllByRecursion (λ p. pos 0 ≤ℤ orient d c p) cs
back_left c d [] h = tt
back_left c d (p ∷ cs) h = (flipped (sym (orient_whole d c p)) (orient_back c d (whole p)) (orient_whole c d p) h.0, back_left c d cs h.1)
  where
    flipped : {x y z w : ℤ} → x ≡ y → y ≡ pos 0 -ℤ z → z ≡ w → w ≤ℤ pos 0 → pos 0 ≤ℤ x
    flipped {x} {y} {z} {w} e f g h = omega (arith, ints)

pub parted : (p q : RatPoint) (o u : Point) (ws : List Point) (e : Edge) → IsFan o u ws → IsEdge e → IsApart e.a e.b (o ∷ u ∷ ws) → IsInside p (o ∷ u ∷ ws) → IsInside q (o ∷ u ∷ ws) → IsPartedByLine p q e
parted p q o u ws e f n (outside_a_side h) hp hq = beyond_side p q e h.1 h.4.0 h.4.1 (at_named _ (λ s. pos 0 <ℤ orient_rat s.a s.b p) (sides (o ∷ u ∷ ws)) hp h) (at_named _ (λ s. pos 0 <ℤ orient_rat s.a s.b q) (sides (o ∷ u ∷ ws)) hq h)
parted p q o u ws e f n (all_left h) hp hq = record {
  line = through e.a e.b;
  start_right = line_start e.a e.b;
  end_right = line_end e.a e.b;
  p_left = own_line e.a e.b o u ws p n f (recursion_from_All _ (o ∷ u ∷ ws) h) hp;
  q_left = own_line e.a e.b o u ws q n f (recursion_from_All _ (o ∷ u ∷ ws) h) hq;
}
parted p q o u ws e f n (all_right h) hp hq = record {
  line = through e.b e.a;
  start_right = line_end e.b e.a;
  end_right = line_start e.b e.a;
  p_left = own_line e.b e.a o u ws p (λ s. n (sym s)) f (back_left e.a e.b (o ∷ u ∷ ws) (recursion_from_All _ (o ∷ u ∷ ws) h)) hp;
  q_left = own_line e.b e.a o u ws q (λ s. n (sym s)) f (back_left e.a e.b (o ∷ u ∷ ws) (recursion_from_All _ (o ∷ u ∷ ws) h)) hq;
}

all_parted : (p q : RatPoint) (o u : Point) (ws : List Point) (es : List Edge) → IsFan o u ws → AllByRecursion IsEdge es → AllByRecursion (λ e. IsApart e.a e.b (o ∷ u ∷ ws)) es → IsInside p (o ∷ u ∷ ws) → IsInside q (o ∷ u ∷ ws) → AllByRecursion (IsPartedByLine p q) es
all_parted p q o u ws [] f n h hp hq = tt
all_parted p q o u ws (e ∷ es) f n h hp hq = (parted p q o u ws e f n.0 h.0 hp hq, all_parted p q o u ws es f n.1 h.1 hp hq)

pub alike_inside : (cs : List Point) (p q : RatPoint) (es : List Edge) → IsStrictlyConvex cs → AllByRecursion IsEdge es → IsClosed es → AllByRecursion (λ e. IsApart e.a e.b cs) es → IsRational p → IsRational q → IsInPolygon p cs → IsInPolygon q cs → wind p es ≡ wind q es
alike_inside cs p q es v n c h kp kq hp hq = by_corners cs v (λ o u w ws f e. subst (λ (l : List Point). AllByRecursion (λ e. IsApart e.a e.b l) es → IsInside p l → IsInside q l → wind p es ≡ wind q es) (sym e)
    (λ a i j. uncrossed p q es c kp kq (all_parted p q o u (w ∷ ws) es f.fan n a i j)) h hp.left hq.left)

-- ---- the centre is in the polygon
centre_total : (a b : Point) (cs : List Point) → orient_rat a b (centre cs) ≡ total (orient a b) cs
centre_total a b [] = ring (a.x ∷ a.y ∷ b.x ∷ b.y ∷ []) ((var 2 ⊖ var 0) ⊗ (num (pos 0) ⊖ var 1 ⊗ num (pos 0)) ⊖ (var 3 ⊖ var 1) ⊗ (num (pos 0) ⊖ var 0 ⊗ num (pos 0))) (num (pos 0)) refl
centre_total a b (c ∷ cs) = ap (λ (k : ℤ). (b.x -ℤ a.x) *ℤ ((c.y +ℤ sum_y cs) -ℤ a.y *ℤ k) -ℤ (b.y -ℤ a.y) *ℤ ((c.x +ℤ sum_x cs) -ℤ a.x *ℤ k)) (one_more (length cs))
    ∙ ring (a.x ∷ a.y ∷ b.x ∷ b.y ∷ c.x ∷ c.y ∷ sum_x cs ∷ sum_y cs ∷ pos (length cs) ∷ [])
    ((var 2 ⊖ var 0) ⊗ ((var 5 ⊕ var 7) ⊖ var 1 ⊗ (num (pos 1) ⊕ var 8)) ⊖ (var 3 ⊖ var 1) ⊗ ((var 4 ⊕ var 6) ⊖ var 0 ⊗ (num (pos 1) ⊕ var 8)))
    (((var 2 ⊖ var 0) ⊗ (var 5 ⊖ var 1) ⊖ (var 3 ⊖ var 1) ⊗ (var 4 ⊖ var 0)) ⊕ ((var 2 ⊖ var 0) ⊗ (var 7 ⊖ var 1 ⊗ var 8) ⊖ (var 3 ⊖ var 1) ⊗ (var 6 ⊖ var 0 ⊗ var 8))) refl
    ∙ ap (λ (z : ℤ). orient a b c +ℤ z) (centre_total a b cs)
  where
    one_more : (n : ℕ) → pos (suc n) ≡ pos 1 +ℤ pos n
    one_more n = omega (arith, ints)

total_nn : (a b : Point) (cs : List Point) → AllByRecursion (λ c. pos 0 ≤ℤ orient a b c) cs → pos 0 ≤ℤ total (orient a b) cs
total_nn a b [] h = omega (arith, ints)
total_nn a b (c ∷ cs) h = sum h.0 (total_nn a b cs h.1)
  where
    sum : {x y : ℤ} → pos 0 ≤ℤ x → pos 0 ≤ℤ y → pos 0 ≤ℤ (x +ℤ y)
    sum {x} {y} h j = omega (arith, ints)

centre_left : (o u w : Point) (ws : List Point) (es : List Edge) → AllByRecursion (λ e. AllByRecursion (IsEndOrLeft e) (o ∷ u ∷ w ∷ ws)) es → AllByRecursion (λ e. pos 0 <ℤ orient_rat e.a e.b (third o u w)) es → AllByRecursion (λ e. pos 0 <ℤ orient_rat e.a e.b (centre (o ∷ u ∷ w ∷ ws))) es
centre_left o u w ws [] v t = tt
centre_left o u w ws (e ∷ es) v t = (
  more (orient e.a e.b o) (orient e.a e.b u) (orient e.a e.b w) (centre_total e.a e.b (o ∷ u ∷ w ∷ ws)) (centre_third o u w e.a e.b) t.0 (total_nn e.a e.b ws (weak_ends e (o ∷ u ∷ w ∷ ws) v.0).1.1.1),
  centre_left o u w ws es v.1 t.1,
)
  where
    more : (x y z : ℤ) {s r t : ℤ} → s ≡ x +ℤ (y +ℤ (z +ℤ t)) → r ≡ x +ℤ y +ℤ z → pos 0 <ℤ r → pos 0 ≤ℤ t → pos 0 <ℤ s
    more x y z {s} {r} {t} e f h j = omega (arith, ints)

pub centre_in_polygon : (cs : List Point) → IsStrictlyConvex cs → IsInPolygon (centre cs) cs
centre_in_polygon cs v = by_corners cs v (λ o u w ws f e. subst (λ (l : List Point). IsInPolygon (centre l) l) (sym e) (record { left = centre_left o u w ws (sides (o ∷ u ∷ w ∷ ws)) f.strict (third_inside o u w ws f) }))

pub centre_rational : (cs : List Point) → IsStrictlyConvex cs → IsRational (centre cs)
centre_rational cs v = record { positive = omega (arith, ints, v.enough) }

pub inside_polygon : (cs : List Point) (p : RatPoint) (es : List Edge) → IsStrictlyConvex cs → AllByRecursion IsEdge es → IsClosed es → AllByRecursion (λ e. IsApart e.a e.b cs) es → wind (centre cs) es ≡ pos 1 → IsRational p → IsInPolygon p cs → wind p es ≡ pos 1
inside_polygon cs p es v n c h w kp hp = alike_inside cs p (centre cs) es v n c h kp (centre_rational cs v) hp (centre_in_polygon cs v) ∙ w

-- ---- triangles
-- a triangle with a point in it turns to the left
pub triangle_turns : (a b c : Point) (p : RatPoint) → IsRational p → IsInPolygon p (a ∷ b ∷ c ∷ []) → pos 0 <ℤ orient a b c
triangle_turns a b c p kp i = pos_factor p.k (orient a b c) (summed (orient a b c) p.k (mean_k a b c p) i.left.1.0 i.left.1.1.0 i.left.0) (weak kp.positive)
  where
    summed : (d k : ℤ) {x y z : ℤ} → d *ℤ k ≡ x +ℤ y +ℤ z → pos 0 <ℤ x → pos 0 <ℤ y → pos 0 <ℤ z → pos 0 <ℤ (k *ℤ d)
    summed d k {x} {y} {z} e f g h = omega (arith, ints, e)

    weak : {z : ℤ} → pos 0 <ℤ z → pos 0 ≤ℤ z
    weak {z} h = omega (arith, ints)

pub inside_triangle : (a b c : Point) (p : RatPoint) (es : List Edge) → AllByRecursion IsEdge es → IsClosed es → AllByRecursion (λ e. IsApart e.a e.b (a ∷ b ∷ c ∷ [])) es → wind (centre (a ∷ b ∷ c ∷ [])) es ≡ pos 1 → IsRational p → IsInPolygon p (a ∷ b ∷ c ∷ []) → wind p es ≡ pos 1
inside_triangle a b c p es n cl h w kp hp = inside_polygon (a ∷ b ∷ c ∷ []) p es (triangle_convex a b c (triangle_turns a b c p kp hp)) n cl h w kp hp
