-- Two strictly convex polygons that have a side in the same direction have a common rational point, off all edges of a list.
-- It lies near the middle of that side: the middle is strictly left of all other sides of both, and either centre is strictly left of that side. Stands on grid_geom's Near, on EdgeLines, NearPoint and Inside.
use lib.IntN.{ℤ, pos, ◌+ℤ◌, ◌-ℤ◌}
use lib.Signed.{◌<ℤ◌, ◌≤ℤ◌}
use mathlib.Core.Path.{◌≡◌, refl, sym, ◌∙◌, subst}
use mathlib.Core.List.{List, [], ◌∷◌, ◌++◌}
use mathlib.Core.Logic.{◌⊎◌, inl, inr}
use native.Mathlib.Omega.{arith}
use Rattle.std.proofs.lemmas.Int.{ints}
use Rattle.std.proofs.lemmas.List.Elements.{All-from_recursion, All-contains}
use Rattle.std.specs.List.{AllByRecursion, Contains}
use Rattle.grid_geom.specs.declared.Point.{Point}
use Rattle.grid_geom.specs.declared.RatPoint.{RatPoint}
use Rattle.grid_geom.specs.declared.Edge.{Edge}
use Rattle.grid_geom.specs.Plane.{orient, orient_rat}
use Rattle.grid_geom.specs.Line.{Line, side, through}
use Rattle.grid_geom.specs.Polygon.{sides, way_round, IsStrictlyConvex}
use Rattle.grid_geom.specs.Closed.{IsEdge}
use Rattle.grid_geom.proofs.Ring.{var, num, ◌⊕◌, ◌⊖◌, ◌⊗◌, ring}
use Rattle.grid_geom.proofs.Lines.{through_is, orient_back}
use Rattle.grid_geom.proofs.Near.{IsAhead, within, towards, IsNear, near_ahead}
use Rattle.wind_law.specs.Centre.{centre}
use Rattle.wind_law.specs.Near.{HaveCommonPoint}
use Rattle.wind_law.proofs.Corners.{IsEndOrLeft}
use Rattle.wind_law.proofs.Polygons.{by_corners, weak_end}
use Rattle.grid_geom.proofs.Polygon.{lines}
use Rattle.grid_geom.proofs.Convex.{lines_inside}
use Rattle.wind_law.proofs.EdgeLines.{lines_directed}
use Rattle.wind_law.proofs.Inside.{centre_in_polygon, centre_rational}
use Rattle.wind_law.proofs.NearPoint.{off_edges}

-- ---- what holds of all corners holds of both ends of a side
ends_all : (P : Point → Type 0) (first from : Point) (ws : List Point) → P first → P from → AllByRecursion P ws → AllByRecursion (λ e. P e.a × P e.b) (way_round first from ws)
ends_all P first from [] h i all = ((i, h), tt)
ends_all P first from (to ∷ ws) h i all = ((i, all.0), ends_all P first to ws h all.0 all.1)

-- each side has all corners as its ends or strictly on its left
strict_sides : (cs : List Point) → IsStrictlyConvex cs → AllByRecursion (λ s. AllByRecursion (λ e. IsEndOrLeft s e.a × IsEndOrLeft s e.b) (sides cs)) (sides cs)
strict_sides cs v = by_corners cs v (λ o u w ws f e. subst (λ (l : List Point). AllByRecursion (λ s. AllByRecursion (λ e. IsEndOrLeft s e.a × IsEndOrLeft s e.b) (sides l)) (sides l)) (sym e) (each o (u ∷ w ∷ ws) (sides (o ∷ u ∷ w ∷ ws)) f.strict))
  where
    each : (o : Point) (ws : List Point) (ss : List Edge) → AllByRecursion (λ s. AllByRecursion (IsEndOrLeft s) (o ∷ ws)) ss → AllByRecursion (λ s. AllByRecursion (λ e. IsEndOrLeft s e.a × IsEndOrLeft s e.b) (sides (o ∷ ws))) ss
    each o ws [] all = tt
    each o ws (s ∷ ss) all = (ends_all (IsEndOrLeft s) o o ws all.0.0 all.0.0 all.0.1, each o ws ss all.1)

named : (P : Edge → Type 0) (ss : List Edge) (e : Edge) → AllByRecursion P ss → Contains ss e → P e
named P ss e all n = All-contains P ss e (All-from_recursion P ss all) n

-- ---- the middle of a side, seen from the other sides
abbrev pub middle : Edge → RatPoint
middle e = record { x = e.a.x +ℤ e.b.x; y = e.a.y +ℤ e.b.y; k = pos 2 }

side_middle : (c d : Point) (e : Edge) → side (through c d) (middle e) ≡ orient c d e.a +ℤ orient c d e.b
side_middle c d e = ring (c.x ∷ c.y ∷ d.x ∷ d.y ∷ e.a.x ∷ e.a.y ∷ e.b.x ∷ e.b.y ∷ [])
    ((var 1 ⊖ var 3) ⊗ (var 4 ⊕ var 6) ⊕ (var 2 ⊖ var 0) ⊗ (var 5 ⊕ var 7) ⊕ (var 0 ⊗ var 3 ⊖ var 1 ⊗ var 2) ⊗ num (pos 2))
    (((var 2 ⊖ var 0) ⊗ (var 5 ⊖ var 1) ⊖ (var 3 ⊖ var 1) ⊗ (var 4 ⊖ var 0)) ⊕ ((var 2 ⊖ var 0) ⊗ (var 7 ⊖ var 1) ⊖ (var 3 ⊖ var 1) ⊗ (var 6 ⊖ var 0))) refl

some_left : {s x y : ℤ} → s ≡ x +ℤ y → pos 0 ≤ℤ x → pos 0 ≤ℤ y → (pos 0 <ℤ x) ⊎ (pos 0 <ℤ y) → pos 0 <ℤ s
some_left {s} {x} {y} e h i (inl n) = omega (arith, ints)
some_left {s} {x} {y} e h i (inr n) = omega (arith, ints)

-- a point left of a side e and of a side s: s is not e reversed, nor has e one point for both ends
pub not_reversed : (s e : Edge) (z : RatPoint) → pos 0 <ℤ orient_rat s.a s.b z → pos 0 <ℤ orient_rat e.a e.b z → e.a ≡ s.b → e.b ≡ s.a → ⊥
not_reversed s e z hs he i j = clash (orient_back e.a e.b z) he (subst (λ (c : Point). pos 0 <ℤ orient_rat c e.a z) (sym j) (subst (λ (c : Point). pos 0 <ℤ orient_rat s.a c z) (sym i) hs))
  where
    clash : {x y : ℤ} → y ≡ pos 0 -ℤ x → pos 0 <ℤ x → pos 0 <ℤ y → ⊥
    clash {x} {y} e h j = omega (arith, ints)

pub no_length : (e : Edge) (c : Point) (z : RatPoint) → pos 0 <ℤ orient_rat e.a e.b z → e.a ≡ c → e.b ≡ c → ⊥
no_length e c z he i j = not_reversed e e z he he (i ∙ sym j) (j ∙ sym i)

pub ahead : (e s : Edge) (z w : RatPoint) → pos 0 <ℤ orient_rat s.a s.b z → pos 0 <ℤ orient_rat e.a e.b z → pos 0 <ℤ orient_rat e.a e.b w → IsEndOrLeft s e.a → IsEndOrLeft s e.b → IsAhead (middle e) w (through s.a s.b)
ahead e s z w hs he hw (inr (inr l)) y = within (some_left (side_middle s.a s.b e) (weak_end s e.a (inr (inr l))) (weak_end s e.b y) (inl l))
ahead e s z w hs he hw x (inr (inr l)) = within (some_left (side_middle s.a s.b e) (weak_end s e.a x) (weak_end s e.b (inr (inr l))) (inr l))
ahead e s z w hs he hw (inl i) (inl j) = absurd (no_length e s.a z he i j)
ahead e s z w hs he hw (inl i) (inr (inl j)) = towards (level (side_middle s.a s.b e) (weak_end s e.a (inl i)) (weak_end s e.b (inr (inl j))))
    (subst (λ (m : ℤ). pos 0 <ℤ m) (sym (through_is s.a s.b w)) (subst (λ (c : Point). pos 0 <ℤ orient_rat s.a c w) j (subst (λ (c : Point). pos 0 <ℤ orient_rat c e.b w) i hw)))
  where
    level : {s x y : ℤ} → s ≡ x +ℤ y → pos 0 ≤ℤ x → pos 0 ≤ℤ y → pos 0 ≤ℤ s
    level {s} {x} {y} e h i = omega (arith, ints)
ahead e s z w hs he hw (inr (inl i)) (inl j) = absurd (not_reversed s e z hs he i j)
ahead e s z w hs he hw (inr (inl i)) (inr (inl j)) = absurd (no_length e s.b z he i j)

ahead_all : (e : Edge) (z w : RatPoint) (ss es : List Edge) → AllByRecursion (λ s. pos 0 <ℤ orient_rat s.a s.b z) ss → pos 0 <ℤ orient_rat e.a e.b z → pos 0 <ℤ orient_rat e.a e.b w → Contains es e
    → AllByRecursion (λ s. AllByRecursion (λ e. IsEndOrLeft s e.a × IsEndOrLeft s e.b) es) ss → AllByRecursion (IsAhead (middle e) w) (lines ss)
ahead_all e z w [] es hz he hw n v = tt
ahead_all e z w (s ∷ ss) es hz he hw n v = (ahead e s z w hz.0 he hw ends.0 ends.1, ahead_all e z w ss es hz.1 he hw n v.1)
  where
    ends : IsEndOrLeft s e.a × IsEndOrLeft s e.b
    ends = named (λ e. IsEndOrLeft s e.a × IsEndOrLeft s e.b) es e v.0 n

-- ---- two lists of lines
both_all : (P : Line → Type 0) (ls ms : List Line) → AllByRecursion P ls → AllByRecursion P ms → AllByRecursion P (ls ++ ms)
both_all P [] ms h i = i
both_all P (l ∷ ls) ms h i = (h.0, both_all P ls ms h.1 i)

first_all : (P : Line → Type 0) (ls ms : List Line) → AllByRecursion P (ls ++ ms) → AllByRecursion P ls
first_all P [] ms h = tt
first_all P (l ∷ ls) ms h = (h.0, first_all P ls ms h.1)

second_all : (P : Line → Type 0) (ls ms : List Line) → AllByRecursion P (ls ++ ms) → AllByRecursion P ms
second_all P [] ms h = h
second_all P (l ∷ ls) ms h = second_all P ls ms h.1

pub overlap : (cs ds : List Point) (e : Edge) (es : List Edge) → IsStrictlyConvex cs → IsStrictlyConvex ds → Contains (sides cs) e → Contains (sides ds) e → AllByRecursion IsEdge es → HaveCommonPoint cs ds es
overlap cs ds e es v w n m h = result (near_ahead (middle e) (centre cs) (lines (sides cs) ++ lines (sides ds)) (lines es) (omega (arith, ints)) (centre_rational cs v).positive
    (both_all (IsAhead (middle e) (centre cs)) (lines (sides cs)) (lines (sides ds)) (ahead_all e (centre cs) (centre cs) (sides cs) (sides cs) (centre_in_polygon cs v).left left left n (strict_sides cs v))
    (ahead_all e (centre ds) (centre cs) (sides ds) (sides ds) (centre_in_polygon ds w).left left_too left m (strict_sides ds w))) (lines_directed es h))
  where
    left : pos 0 <ℤ orient_rat e.a e.b (centre cs)
    left = named (λ s. pos 0 <ℤ orient_rat s.a s.b (centre cs)) (sides cs) e (centre_in_polygon cs v).left n

    left_too : pos 0 <ℤ orient_rat e.a e.b (centre ds)
    left_too = named (λ s. pos 0 <ℤ orient_rat s.a s.b (centre ds)) (sides ds) e (centre_in_polygon ds w).left m

    result : IsNear (middle e) (lines (sides cs) ++ lines (sides ds)) (lines es) → HaveCommonPoint cs ds es
    result r = record {
      at = r.at;
      rational = record { positive = r.rational };
      in_first = record { left = lines_inside r.at (sides cs) (first_all (λ l. pos 0 <ℤ side l r.at) (lines (sides cs)) (lines (sides ds)) r.inside) };
      in_second = record { left = lines_inside r.at (sides ds) (second_all (λ l. pos 0 <ℤ side l r.at) (lines (sides cs)) (lines (sides ds)) r.inside) };
      off = off_edges (middle e) r.at es r.clear;
    }
