-- Strictly convex corners by positions, as the lemmas on polygons take them, and what `apart` means in rational points.
-- Stands on Polygon and ApartOrCommon (polygons of any number of corners) and SharedPoint (box and weights); serves `in_open` and `apart`.
use Prim.Native.Nat.{ℕ, zero, suc, ◌+◌, ◌%◌, ◌<◌, ◌≤◌}
use lib.IntN.{ℤ, pos}
use lib.Signed.{◌<ℤ◌, ◌≤ℤ◌}
use lib.ListN.{length}
use mathlib.Core.Bool.{Bool, true, false, ◌&&◌}
use mathlib.Core.List.{List, [], ◌∷◌}
use mathlib.Core.Logic.{◌≢◌, ◌⊎◌, inl, inr}
use mathlib.Core.Path.{◌≡◌, refl, sym, ap, ◌∙◌, subst}
use native.Mathlib.Omega.{arith}
use Rattle.std.proofs.Math.Nat.{mod_self, mod-eq_of_lt}
use Rattle.std.proofs.lemmas.Int.{ints}
use Rattle.std.specs.List.{AllByRecursion, list_all}
use Rattle.grid_geom.specs.declared.Point.{Point}
use Rattle.grid_geom.specs.declared.RatPoint.{RatPoint}
use Rattle.grid_geom.specs.declared.Edge.{Edge}
use Rattle.grid_geom.specs.Plane.{orient, orient_rat}
use Rattle.grid_geom.specs.Line.{Line, side, whole, through}
use Rattle.grid_geom.specs.Polygon.{way_round, sides, corner_at, after, is_left, IsStrictlyConvex, IsInPolygon}
use Rattle.grid_geom.proofs.Lines.{through_is, orient_whole, flat_first, flat_second}
use Rattle.grid_geom.proofs.Triangle.{turn}
use Rattle.grid_geom.proofs.Booleans.{lt_true, true_lt}
use Rattle.grid_geom.proofs.Polygon.{lines, IsFan, polygon_sides, IsSomeLeft}
use Rattle.grid_geom.proofs.ApartOrCommon.{HasAllLeft, IsStrict}

-- ---- the sides by positions
same_number : (i j : ℕ) → (j ≡ i) ⊎ (j ≢ i)
same_number i j = grind arith

-- the position after the last is the first
after_last : (corners : List Point) (k : ℕ) → k + 1 ≡ length corners → after corners k ≡ 0
after_last corners k e = ap (λ (m : ℕ). m % length corners) e ∙ mod_self (length corners)

after_other : (corners : List Point) (k : ℕ) → k + 1 < length corners → after corners k ≡ k + 1
after_other corners k h = mod-eq_of_lt h

-- the second corner ends no side that begins past it
not_second : (corners : List Point) (k : ℕ) → 2 ≤ k → k < length corners → 1 ≡ after corners k → ⊥
not_second corners k h l e = elim (same_number (length corners) (k + 1)) [
  | inl f ↦ omega (arith, e, after_last corners k f)
  | inr n ↦ omega (arith, e, after_other corners k (omega (arith, n, l)), h)
]

-- what holds of each side by its position holds of the lines of the way round
walked : (P : Line → Type 0) (corners : List Point) (first from : Point) (rest : List Point) (k : ℕ) → first ≡ corner_at corners 0 → k + length (from ∷ rest) ≡ length corners
    → ((j : ℕ) → j < length (from ∷ rest) → corner_at (from ∷ rest) j ≡ corner_at corners (k + j))
    → ((i : ℕ) → i < length corners → P (through (corner_at corners i) (corner_at corners (after corners i)))) → AllByRecursion P (lines (way_round first from rest))
walked P corners first from [] k e n c h = (moved (here c) (e ∙ ap (corner_at corners) (sym (after_last corners k n))) (h k (omega (arith, n))), tt)
  where
    here : ((j : ℕ) → j < 1 → corner_at (from ∷ []) j ≡ corner_at corners (k + j)) → from ≡ corner_at corners k
    here c = c 0 (omega arith) ∙ ap (corner_at corners) (omega arith)

    moved : {u w u' w' : Point} → u ≡ u' → w ≡ w' → P (through u' w') → P (through u w)
    moved {u} {w} {u'} {w'} f g p = subst (λ (z : Point). P (through z w)) (sym f) (subst (λ (z : Point). P (through u' z)) (sym g) p)
walked P corners first from (to ∷ rest) k e n c h = (
  moved (here c) (there c ∙ ap (corner_at corners) (sym (after_other corners k (omega (arith, n))))) (h k (omega (arith, n))),
  walked P corners first to rest (k + 1) e (omega (arith, n)) (λ j i. c (suc j) (omega (arith, i)) ∙ ap (corner_at corners) (omega arith)) h,
)
  where
    here : ((j : ℕ) → j < length (from ∷ (to ∷ rest)) → corner_at (from ∷ (to ∷ rest)) j ≡ corner_at corners (k + j)) → from ≡ corner_at corners k
    here c = c 0 (omega arith) ∙ ap (corner_at corners) (omega arith)

    there : ((j : ℕ) → j < length (from ∷ (to ∷ rest)) → corner_at (from ∷ (to ∷ rest)) j ≡ corner_at corners (k + j)) → to ≡ corner_at corners (k + 1)
    there c = c 1 (omega arith)

    moved : {u w u' w' : Point} → u ≡ u' → w ≡ w' → P (through u' w') → P (through u w)
    moved {u} {w} {u'} {w'} f g p = subst (λ (z : Point). P (through z w)) (sym f) (subst (λ (z : Point). P (through u' z)) (sym g) p)

pub each_side : (P : Line → Type 0) (o u : Point) (ws : List Point) → ((i : ℕ) → i < length (o ∷ (u ∷ ws)) → P (through (corner_at (o ∷ (u ∷ ws)) i) (corner_at (o ∷ (u ∷ ws)) (after (o ∷ (u ∷ ws)) i)))) → AllByRecursion P (polygon_sides o u ws)
each_side P o u ws h = walked P (o ∷ (u ∷ ws)) o o (u ∷ ws) 0 refl (omega arith) (λ j i. ap (corner_at (o ∷ (u ∷ ws))) (omega arith)) h

-- ---- each corner lies on the closed left of each side, and one on its open left
at_side : (u w p : Point) → side (through u w) (whole p) ≡ orient u w p
at_side u w p = through_is u w (whole p) ∙ orient_whole u w p

corner_left : (corners : List Point) → IsStrictlyConvex corners → (i j : ℕ) → i < length corners → j < length corners → pos 0 ≤ℤ orient (corner_at corners i) (corner_at corners (after corners i)) (corner_at corners j)
corner_left corners v i j hi hj = elim (same_number i j) [
  | inl e ↦ level (ap (λ (k : ℕ). orient (corner_at corners i) (corner_at corners (after corners i)) (corner_at corners k)) e ∙ flat_first (corner_at corners i) (corner_at corners (after corners i)))
  | inr n ↦ elim (same_number (after corners i) j) [
    | inl e ↦ level (ap (λ (k : ℕ). orient (corner_at corners i) (corner_at corners (after corners i)) (corner_at corners k)) e ∙ flat_second (corner_at corners i) (corner_at corners (after corners i)))
    | inr m ↦ weak (v.left i hi j hj n m)
  ]
]
  where
    level : {z : ℤ} → z ≡ pos 0 → pos 0 ≤ℤ z
    level {z} e = omega (arith, ints)

    weak : {z : ℤ} → pos 0 <ℤ z → pos 0 ≤ℤ z
    weak {z} h = omega (arith, ints)

all_from : (Q : Point → Type 0) (ws : List Point) → ((j : ℕ) → j < length ws → Q (corner_at ws j)) → AllByRecursion Q ws
all_from Q [] h = tt
all_from Q (w ∷ ws) h = (h 0 (omega arith), all_from Q ws (λ j i. h (suc j) (omega (arith, i))))

at_least : {y z : ℤ} → y ≡ z → pos 0 ≤ℤ z → pos 0 ≤ℤ y
at_least {y} {z} e h = omega (arith, ints)

at_more : {y z : ℤ} → y ≡ z → pos 0 <ℤ z → pos 0 <ℤ y
at_more {y} {z} e h = omega (arith, ints)

side_all_left : (o u : Point) (ws : List Point) → IsStrictlyConvex (o ∷ (u ∷ ws)) → (i : ℕ) → i < length (o ∷ (u ∷ ws)) → HasAllLeft (through (corner_at (o ∷ (u ∷ ws)) i) (corner_at (o ∷ (u ∷ ws)) (after (o ∷ (u ∷ ws)) i))) o u ws
side_all_left o u ws v i hi = record {
  o_left = at_least (at_side (corner_at (o ∷ (u ∷ ws)) i) (corner_at (o ∷ (u ∷ ws)) (after (o ∷ (u ∷ ws)) i)) o) (corner_left (o ∷ (u ∷ ws)) v i 0 hi (omega arith));
  u_left = at_least (at_side (corner_at (o ∷ (u ∷ ws)) i) (corner_at (o ∷ (u ∷ ws)) (after (o ∷ (u ∷ ws)) i)) u) (corner_left (o ∷ (u ∷ ws)) v i 1 hi (omega arith));
  others_left = all_from (λ w. pos 0 ≤ℤ side (through (corner_at (o ∷ (u ∷ ws)) i) (corner_at (o ∷ (u ∷ ws)) (after (o ∷ (u ∷ ws)) i))) (whole w)) ws (λ j h. at_least (at_side (corner_at (o ∷ (u ∷ ws)) i) (corner_at (o ∷ (u ∷ ws)) (after (o ∷ (u ∷ ws)) i)) (corner_at ws j)) (corner_left (o ∷ (u ∷ ws)) v i (suc (suc j)) hi (omega (arith, h))));
}

-- the first corner counts among the others
first_left : (l : Line) (o : Point) (ws : List Point) → pos 0 <ℤ side l (whole o) → IsSomeLeft l o ws
first_left l o [] h = h
first_left l o (w ∷ ws) h = inr (first_left l o ws h)

side_some_left : (o u w : Point) (ws : List Point) → IsStrictlyConvex (o ∷ (u ∷ (w ∷ ws))) → (i : ℕ) → i < length (o ∷ (u ∷ (w ∷ ws))) → IsSomeLeft (through (corner_at (o ∷ (u ∷ (w ∷ ws))) i) (corner_at (o ∷ (u ∷ (w ∷ ws))) (after (o ∷ (u ∷ (w ∷ ws))) i))) o (u ∷ (w ∷ ws))
side_some_left o u w ws v zero hi = inr (inl (at_more (at_side o (corner_at (o ∷ (u ∷ (w ∷ ws))) (after (o ∷ (u ∷ (w ∷ ws))) 0)) w) (v.left 0 hi 2 (omega arith) (λ e. omega (arith, e)) (λ e. omega (arith, e, after_other (o ∷ (u ∷ (w ∷ ws))) 0 (omega arith))))))
side_some_left o u w ws v (suc zero) hi = inr (inr (first_left (through u (corner_at (o ∷ (u ∷ (w ∷ ws))) (after (o ∷ (u ∷ (w ∷ ws))) 1))) o ws (at_more (at_side u (corner_at (o ∷ (u ∷ (w ∷ ws))) (after (o ∷ (u ∷ (w ∷ ws))) 1)) o) (v.left 1 hi 0 (omega arith) (λ e. omega (arith, e)) (λ e. omega (arith, e, after_other (o ∷ (u ∷ (w ∷ ws))) 1 (omega arith)))))))
side_some_left o u w ws v (suc (suc i)) hi = inl (at_more (at_side (corner_at (w ∷ ws) i) (corner_at (o ∷ (u ∷ (w ∷ ws))) (after (o ∷ (u ∷ (w ∷ ws))) (suc (suc i)))) u) (v.left (suc (suc i)) hi 1 (omega arith) (λ e. omega (arith, e)) (not_second (o ∷ (u ∷ (w ∷ ws))) (suc (suc i)) (omega arith) hi)))

-- ---- each side has the first corner on its left
fan_walked : (corners : List Point) (o u : Point) (ws : List Point) (k : ℕ) → IsStrictlyConvex corners → o ≡ corner_at corners 0 → k + length (u ∷ ws) ≡ length corners → 1 ≤ k
    → ((j : ℕ) → j < length (u ∷ ws) → corner_at (u ∷ ws) j ≡ corner_at corners (k + j)) → IsFan o u ws
fan_walked corners o u [] k v e n p c = tt
fan_walked corners o u (w ∷ ws) k v e n p c = (
  turned e (c 0 (omega arith) ∙ ap (corner_at corners) (omega arith)) (c 1 (omega arith) ∙ ap (corner_at corners) (sym (after_other corners k (omega (arith, n)))))
      (v.left k (omega (arith, n)) 0 (omega (arith, n)) (λ f. omega (arith, f)) (λ f. omega (arith, f, after_other corners k (omega (arith, n))))),
  fan_walked corners o w ws (k + 1) v e (omega (arith, n)) (omega (arith, p)) (λ j i. c (suc j) (omega (arith, i)) ∙ ap (corner_at corners) (omega arith)),
)
  where
    turned : {o' u' w' : Point} → o ≡ o' → u ≡ u' → w ≡ w' → pos 0 <ℤ orient u' w' o' → pos 0 <ℤ orient o u w
    turned {o'} {u'} {w'} f g h j = subst (λ (z : Point). pos 0 <ℤ orient z u w) (sym f) (subst (λ (z : Point). pos 0 <ℤ orient o' z w) (sym g) (subst (λ (z : Point). pos 0 <ℤ orient o' u' z) (sym h) (subst (λ (z : ℤ). pos 0 <ℤ z) (sym (turn o' u' w')) j)))

-- strictly convex corners are what the lemmas on polygons take
pub strict : (o u : Point) (ws : List Point) → IsStrictlyConvex (o ∷ (u ∷ ws)) → IsStrict o u ws
strict o u [] v = absurd (omega (arith, v.enough))
strict o u (w ∷ ws) v = record {
  polygon = record { fan = fan_walked (o ∷ (u ∷ (w ∷ ws))) o u (w ∷ ws) 1 v refl (omega arith) (omega arith) (λ j i. let e : suc j ≡ 1 + j = omega arith in ap (corner_at (o ∷ (u ∷ (w ∷ ws)))) e) };
  all_left = each_side (λ l. HasAllLeft l o u (w ∷ ws)) o u (w ∷ ws) (side_all_left o u (w ∷ ws) v);
  some_left = each_side (λ l. IsSomeLeft l o (u ∷ (w ∷ ws))) o u (w ∷ ws) (side_some_left o u w ws v);
}

-- ---- the open polygon, by edges and by lines
pub inside_lines : (q : RatPoint) (es : List Edge) → AllByRecursion (λ e. pos 0 <ℤ orient_rat e.a e.b q) es → AllByRecursion (λ l. pos 0 <ℤ side l q) (lines es)
inside_lines q [] h = tt
inside_lines q (e ∷ es) h = (at_more (through_is e.a e.b q) h.0, inside_lines q es h.1)

pub lines_inside : (q : RatPoint) (es : List Edge) → AllByRecursion (λ l. pos 0 <ℤ side l q) (lines es) → AllByRecursion (λ e. pos 0 <ℤ orient_rat e.a e.b q) es
lines_inside q [] h = tt
lines_inside q (e ∷ es) h = (at_more (sym (through_is e.a e.b q)) h.0, lines_inside q es h.1)

-- the test of each side
tested : (q : Point) (es : List Edge) → list_all (is_left q) es ≡ true → AllByRecursion (λ e. pos 0 <ℤ orient_rat e.a e.b (whole q)) es
tested q [] h = tt
tested q (e ∷ es) h = elim (is_left q e) as (λ (b : Bool). is_left q e ≡ b → (b && list_all (is_left q) es) ≡ true → AllByRecursion (λ e. pos 0 <ℤ orient_rat e.a e.b (whole q)) (e ∷ es))
    [ true ↦ λ f g. (at_more (orient_whole e.a e.b q) (lt_true (pos 0) (orient e.a e.b q) f), tested q es g) | false ↦ λ f g. absurd (cc) ] refl h

passed : (q : Point) (es : List Edge) → AllByRecursion (λ e. pos 0 <ℤ orient_rat e.a e.b (whole q)) es → list_all (is_left q) es ≡ true
passed q [] h = refl
passed q (e ∷ es) h = ap (λ (b : Bool). b && list_all (is_left q) es) (true_lt (pos 0) (orient e.a e.b q) (at_more (sym (orient_whole e.a e.b q)) h.0)) ∙ passed q es h.1

pub inside_test : (q : Point) (corners : List Point) (r : Bool) → r ≡ list_all (is_left q) (sides corners) → (r ≡ true → IsInPolygon (whole q) corners) × (IsInPolygon (whole q) corners → r ≡ true)
inside_test q corners r e = (λ t. record { left = tested q (sides corners) (sym e ∙ t) }, λ h. e ∙ passed q (sides corners) h.left)

-- ---- triangles
pub triangle_convex : (a b c : Point) → pos 0 <ℤ orient a b c → IsStrictlyConvex (a ∷ (b ∷ (c ∷ [])))
triangle_convex a b c h = record { enough = omega arith; left = corner }
  where
    corner : (i : ℕ) → i < 3 → (j : ℕ) → j < 3 → j ≢ i → j ≢ after (a ∷ (b ∷ (c ∷ []))) i → pos 0 <ℤ orient (corner_at (a ∷ (b ∷ (c ∷ []))) i) (corner_at (a ∷ (b ∷ (c ∷ []))) (after (a ∷ (b ∷ (c ∷ []))) i)) (corner_at (a ∷ (b ∷ (c ∷ []))) j)
    corner zero hi zero hj n m = absurd (n refl)
    corner zero hi (suc zero) hj n m = absurd (m refl)
    corner zero hi (suc (suc zero)) hj n m = h
    corner (suc zero) hi zero hj n m = subst (λ (z : ℤ). pos 0 <ℤ z) (turn a b c) h
    corner (suc zero) hi (suc zero) hj n m = absurd (n refl)
    corner (suc zero) hi (suc (suc zero)) hj n m = absurd (m refl)
    corner (suc (suc zero)) hi zero hj n m = absurd (m refl)
    corner (suc (suc zero)) hi (suc zero) hj n m = subst (λ (z : ℤ). pos 0 <ℤ z) (turn a b c ∙ turn b c a) h
    corner (suc (suc zero)) hi (suc (suc zero)) hj n m = absurd (n refl)
    corner i hi (suc (suc (suc j))) hj n m = absurd (omega (arith, hj))
    corner (suc (suc (suc i))) hi j hj n m = absurd (omega (arith, hi))
