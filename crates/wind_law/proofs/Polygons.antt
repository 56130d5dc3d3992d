-- Law Polygon: a strictly convex polygon of any number of corners winds once round each point in it, and 0 times round each other point off its sides.
-- Inside: each side's own line parts it from two inner points, so all inner points have one winding number (Uncrossed). At the centre of the first three corners it is that of their triangle, 1 (InTriangle), and of the rest, which lies beyond the diagonal, 0 (Beyond).
-- Outside: a point strictly right of a side has 0 (Beyond). A point of the closed polygon that is on the line of a side is on that side.
use Prim.Native.Nat.{ℕ, ◌+◌}
use lib.IntN.{ℤ, pos, negsuc, ◌+ℤ◌, ◌-ℤ◌, ◌*ℤ◌}
use lib.Signed.{◌<ℤ◌, ◌≤ℤ◌}
use mathlib.Core.Path.{◌≡◌, refl, sym, ap, ◌∙◌, subst}
use mathlib.Core.Bool.{cond}
use mathlib.Core.List.{List, [], ◌∷◌}
use mathlib.Core.Logic.{◌⊎◌, inl, inr}
use native.Mathlib.Omega.{arith}
use Rattle.std.proofs.lemmas.Int.{ints, clamps}
use Rattle.std.specs.Int.{int_max, int_min}
use Rattle.std.specs.List.{AllByRecursion}
use Rattle.grid_geom.specs.declared.Point.{Point}
use Rattle.grid_geom.specs.declared.RatPoint.{RatPoint}
use Rattle.grid_geom.specs.declared.Edge.{Edge}
use Rattle.grid_geom.specs.Plane.{orient, orient_rat, IsRational}
use Rattle.grid_geom.specs.Line.{Line, side, whole, through}
use Rattle.grid_geom.specs.Sides.{IsOnClosed}
use Rattle.grid_geom.specs.Polygon.{sides, way_round, IsStrictlyConvex, IsInPolygon}
use Rattle.grid_geom.specs.Winding.{cross, wind}
use Rattle.grid_geom.specs.Closed.{IsClosed, IsOff, leaving, arriving, same_point}
use Rattle.grid_geom.proofs.Ring.{E, var, num, ◌⊕◌, ◌⊖◌, ◌⊗◌, ring}
use Rattle.grid_geom.proofs.Signs.{either, nn_mul, pos_mul}
use Rattle.grid_geom.proofs.Lines.{through_is, orient_whole, flat_first, flat_second}
use Rattle.grid_geom.proofs.Triangle.{turn, centre, centre_inside}
use Rattle.grid_geom.proofs.Convex.{inside_lines}
use Rattle.grid_geom.proofs.Polygon.{lines, IsFan, AreLeftOf, weakly_left}
use Rattle.grid_geom.proofs.Near.{mix, side_mix}
use Rattle.grid_geom.proofs.Meeting.{nn_square}
use Rattle.wind_law.specs.Chains.{edge}
use Rattle.wind_law.proofs.HalfOpen.{cross_back}
use Rattle.wind_law.proofs.Uncrossed.{IsPartedByLine, uncrossed}
use Rattle.wind_law.proofs.Beyond.{IsLeftOf, wind_right_of}
use Rattle.wind_law.proofs.InTriangle.{wind_in_triangle}
use Rattle.wind_law.proofs.Corners.{IsEndOrLeft, IsConvexFrom, convex_from}

-- ---- the sides are closed
way_balance : (x first from : Point) (ws : List Point) → leaving x (way_round first from ws) + cond (same_point first x) 1 0 ≡ arriving x (way_round first from ws) + cond (same_point from x) 1 0
way_balance x first from [] = turned (cond (same_point from x) 1 0) (cond (same_point first x) 1 0)
  where
    turned : (m n : ℕ) → (m + 0) + n ≡ (n + 0) + m
    turned m n = omega arith
way_balance x first from (to ∷ ws) = joined (cond (same_point from x) 1 0) (cond (same_point to x) 1 0) (cond (same_point first x) 1 0) (leaving x (way_round first to ws)) (arriving x (way_round first to ws)) (way_balance x first to ws)
  where
    joined : (m n f l a : ℕ) → l + f ≡ a + n → (m + l) + f ≡ (n + a) + m
    joined m n f l a e = omega arith

pub sides_closed : (cs : List Point) → IsClosed (sides cs)
sides_closed [] = record { balanced = λ x. refl }
sides_closed (o ∷ ws) = record { balanced = λ x. cancel (leaving x (sides (o ∷ ws))) (arriving x (sides (o ∷ ws))) (cond (same_point o x) 1 0) (way_balance x o o ws) }
  where
    cancel : (l a f : ℕ) → l + f ≡ a + f → l ≡ a
    cancel l a f e = omega arith

-- what holds of all corners holds of both ends of each side
pub ends_of_sides : (c d first from : Point) (ws : List Point) → pos 0 ≤ℤ orient c d first → pos 0 ≤ℤ orient c d from → AllByRecursion (λ p. pos 0 ≤ℤ orient c d p) ws → AllByRecursion (IsLeftOf c d) (way_round first from ws)
ends_of_sides c d first from [] h i all = (record { start_left = i; end_left = h }, tt)
ends_of_sides c d first from (to ∷ ws) h i all = (record { start_left = i; end_left = all.0 }, ends_of_sides c d first to ws h all.0 all.1)

-- a polygon winds 0 times round a point strictly right of a line that has all its corners on its closed left
pub polygon_beyond : (c d : Point) (q : RatPoint) (o : Point) (ws : List Point) → IsRational q → orient_rat c d q <ℤ pos 0 → AllByRecursion (λ p. pos 0 ≤ℤ orient c d p) (o ∷ ws) → wind q (sides (o ∷ ws)) ≡ pos 0
polygon_beyond c d q o ws kq n all = wind_right_of c d q (sides (o ∷ ws)) kq (sides_closed (o ∷ ws)) n (ends_of_sides c d o o ws all.0 all.0 all.1)

-- ---- the first three corners
pub weak_end : (e : Edge) (c : Point) → IsEndOrLeft e c → pos 0 ≤ℤ orient e.a e.b c
weak_end e c (inl h) = subst (λ (c : Point). pos 0 ≤ℤ orient e.a e.b c) (sym h) (level (flat_first e.a e.b))
  where
    level : {z : ℤ} → z ≡ pos 0 → pos 0 ≤ℤ z
    level {z} e = omega (arith, ints)
weak_end e c (inr (inl h)) = subst (λ (c : Point). pos 0 ≤ℤ orient e.a e.b c) (sym h) (level (flat_second e.a e.b))
  where
    level : {z : ℤ} → z ≡ pos 0 → pos 0 ≤ℤ z
    level {z} e = omega (arith, ints)
weak_end e c (inr (inr h)) = omega (arith, ints, h)

-- the value at the centre of three corners is the sum of the values at them
pub centre_third : (a b c d e : Point) → orient_rat d e (centre a b c) ≡ orient d e a +ℤ orient d e b +ℤ orient d e c
centre_third a b c d e = ring (a.x ∷ a.y ∷ b.x ∷ b.y ∷ c.x ∷ c.y ∷ d.x ∷ d.y ∷ e.x ∷ e.y ∷ [])
    ((var 8 ⊖ var 6) ⊗ (var 1 ⊕ var 3 ⊕ var 5 ⊖ var 7 ⊗ num (pos 3)) ⊖ (var 9 ⊖ var 7) ⊗ (var 0 ⊕ var 2 ⊕ var 4 ⊖ var 6 ⊗ num (pos 3))) (turnE 0 ⊕ turnE 2 ⊕ turnE 4) refl
  where
    turnE : ℕ → E
    turnE n = (var 8 ⊖ var 6) ⊗ (var (n + 1) ⊖ var 7) ⊖ (var 9 ⊖ var 7) ⊗ (var n ⊖ var 6)

three_summed : {s x y z : ℤ} → s ≡ x +ℤ y +ℤ z → pos 0 ≤ℤ x → pos 0 ≤ℤ y → pos 0 ≤ℤ z → (pos 0 <ℤ x) ⊎ ((pos 0 <ℤ y) ⊎ (pos 0 <ℤ z)) → pos 0 <ℤ s
three_summed {s} {x} {y} {z} e h i j (inl n) = omega (arith, ints)
three_summed {s} {x} {y} {z} e h i j (inr (inl n)) = omega (arith, ints)
three_summed {s} {x} {y} {z} e h i j (inr (inr n)) = omega (arith, ints)

-- each side from the corner c on has o or u strictly left
rest_inside : (o u w c : Point) (ws cs : List Point) → IsFan o c ws → pos 0 <ℤ orient o u c → AllByRecursion (λ d. pos 0 <ℤ orient o u d) ws → AllByRecursion (λ e. AllByRecursion (IsEndOrLeft e) (o ∷ u ∷ w ∷ cs)) (way_round o c ws)
    → AllByRecursion (λ e. pos 0 <ℤ orient_rat e.a e.b (centre o u w)) (way_round o c ws)
rest_inside o u w c [] cs f h all v = (
  three_summed (centre_third o u w c o) (weak_end (edge c o) o v.0.0) (weak_end (edge c o) u v.0.1.0) (weak_end (edge c o) w v.0.1.1.0) (inr (inl (subst (λ (z : ℤ). pos 0 <ℤ z) (sym (turn c o u)) h))),
  tt,
)
rest_inside o u w c (d ∷ ws) cs f h all v = (
  three_summed (centre_third o u w c d) (weak_end (edge c d) o v.0.0) (weak_end (edge c d) u v.0.1.0) (weak_end (edge c d) w v.0.1.1.0) (inl (subst (λ (z : ℤ). pos 0 <ℤ z) (turn o c d) f.0)),
  rest_inside o u w d ws cs f.1 all.0 all.1 v.1,
)

pub third_inside : (o u w : Point) (ws : List Point) → IsConvexFrom o u w ws → AllByRecursion (λ e. pos 0 <ℤ orient_rat e.a e.b (centre o u w)) (sides (o ∷ u ∷ w ∷ ws))
third_inside o u w ws v = ((centre_inside o u w v.fan.0).left_of_first, ((centre_inside o u w v.fan.0).left_of_second, rest_inside o u w w ws ws v.fan.1 v.ahead.0 v.ahead.1 v.strict.1.1))

-- four points, of which the first two are a side that has the others on its left: turning goes on
turned_on : (o u w c d : Point) → orient o u c *ℤ orient o w d ≡ orient o u w *ℤ orient o c d +ℤ orient o u d *ℤ orient o w c
turned_on o u w c d = ring (o.x ∷ o.y ∷ u.x ∷ u.y ∷ w.x ∷ w.y ∷ c.x ∷ c.y ∷ d.x ∷ d.y ∷ [])
    (turnE 2 6 ⊗ turnE 4 8) (turnE 2 4 ⊗ turnE 6 8 ⊕ turnE 2 8 ⊗ turnE 4 6) refl
  where
    turnE : ℕ → ℕ → E
    turnE m n = (var m ⊖ var 0) ⊗ (var (n + 1) ⊖ var 1) ⊖ (var (m + 1) ⊖ var 1) ⊗ (var n ⊖ var 0)

past : (a b c d f g : ℤ) → a *ℤ b ≡ c *ℤ d +ℤ f *ℤ g → pos 0 <ℤ a → pos 0 <ℤ c → pos 0 <ℤ d → pos 0 <ℤ f → pos 0 ≤ℤ g → pos 0 ≤ℤ b
past a b c d f g e ha hc hd hf hg = elim (either (pos 0) b) [
  | inl h ↦ h
  | inr h ↦ absurd (omega (arith, ints, e, pos_mul c d hc hd, nn_mul f g (omega (arith, ints)) hg, nn_mul a (pos 0 -ℤ b) (omega (arith, ints)) (omega (arith, ints)), minus a b))
]
  where
    minus : (a b : ℤ) → a *ℤ (pos 0 -ℤ b) ≡ pos 0 -ℤ a *ℤ b
    minus a b = ring (a ∷ b ∷ []) (var 0 ⊗ (num (pos 0) ⊖ var 1)) (num (pos 0) ⊖ var 0 ⊗ var 1) refl

-- the corners after w are on the closed left of the diagonal o-w
left_of_diagonal : (o u w c : Point) (ws : List Point) → pos 0 <ℤ orient o u w → pos 0 <ℤ orient o u c → pos 0 ≤ℤ orient o w c → IsFan o c ws → AllByRecursion (λ d. pos 0 <ℤ orient o u d) ws → AllByRecursion (λ d. pos 0 ≤ℤ orient o w d) ws
left_of_diagonal o u w c [] hw hc h f all = tt
left_of_diagonal o u w c (d ∷ ws) hw hc h f all = (next, left_of_diagonal o u w d ws hw all.0 next f.1 all.1)
  where
    next : pos 0 ≤ℤ orient o w d
    next = past (orient o u c) (orient o w d) (orient o u w) (orient o c d) (orient o u d) (orient o w c) (turned_on o u w c d) hc hw f.0 all.0 h

right_of_diagonal : (o u w : Point) → pos 0 <ℤ orient o u w → orient_rat o w (centre o u w) <ℤ pos 0
right_of_diagonal a b c h = negative (centre_third a b c a c) (flat_first a c) (flat_second a c) (ring (a.x ∷ a.y ∷ b.x ∷ b.y ∷ c.x ∷ c.y ∷ []) ((var 4 ⊖ var 0) ⊗ (var 3 ⊖ var 1) ⊖ (var 5 ⊖ var 1) ⊗ (var 2 ⊖ var 0)) (num (pos 0) ⊖ ((var 2 ⊖ var 0) ⊗ (var 5 ⊖ var 1) ⊖ (var 3 ⊖ var 1) ⊗ (var 4 ⊖ var 0))) refl) h
  where
    negative : {s x y z m : ℤ} → s ≡ x +ℤ y +ℤ z → x ≡ pos 0 → z ≡ pos 0 → y ≡ pos 0 -ℤ m → pos 0 <ℤ m → s <ℤ pos 0
    negative {s} {x} {y} {z} {m} e f g h j = omega (arith, ints)

-- the diagonal cuts off the triangle of the first three corners
cut_off : (o u w : Point) (ws : List Point) (q : RatPoint) → wind q (sides (o ∷ u ∷ w ∷ ws)) ≡ wind q (sides (o ∷ u ∷ w ∷ [])) +ℤ wind q (sides (o ∷ w ∷ ws))
cut_off o u w ws q = split (cross q (edge o u)) (cross q (edge u w)) (cross q (edge o w)) (cross q (edge w o)) (wind q (way_round o w ws)) (cross_back q o w)
  where
    split : (x y d b r : ℤ) → b ≡ pos 0 -ℤ d → x +ℤ (y +ℤ r) ≡ (x +ℤ (y +ℤ (b +ℤ pos 0))) +ℤ (d +ℤ r)
    split x y d b r e = omega (arith, ints)

third_wind : (o u w : Point) (ws : List Point) → IsConvexFrom o u w ws → wind (centre o u w) (sides (o ∷ u ∷ w ∷ ws)) ≡ pos 1
third_wind o u w ws v = cut_off o u w ws (centre o u w)
    ∙ ap (λ (z : ℤ). z +ℤ wind (centre o u w) (sides (o ∷ w ∷ ws))) (wind_in_triangle o u w (centre o u w) three (centre_inside o u w v.fan.0))
    ∙ ap (λ (z : ℤ). pos 1 +ℤ z) (polygon_beyond o w (centre o u w) o (w ∷ ws) three (right_of_diagonal o u w v.fan.0)
    (level (flat_first o w), (level (flat_second o w), left_of_diagonal o u w w ws v.fan.0 v.fan.0 (level (flat_second o w)) v.fan.1 v.ahead.1)))
  where
    three : IsRational (centre o u w)
    three = record { positive = omega (arith, ints) }

    level : {z : ℤ} → z ≡ pos 0 → pos 0 ≤ℤ z
    level {z} e = omega (arith, ints)

-- ---- inside
own_lines : (p q : RatPoint) (es : List Edge) → AllByRecursion (λ e. pos 0 <ℤ orient_rat e.a e.b p) es → AllByRecursion (λ e. pos 0 <ℤ orient_rat e.a e.b q) es → AllByRecursion (IsPartedByLine p q) es
own_lines p q [] hp hq = tt
own_lines p q (e ∷ es) hp hq = (
  record {
    line = through e.a e.b;
    start_right = level (through_is e.a e.b (whole e.a) ∙ orient_whole e.a e.b e.a ∙ flat_first e.a e.b);
    end_right = level (through_is e.a e.b (whole e.b) ∙ orient_whole e.a e.b e.b ∙ flat_second e.a e.b);
    p_left = subst (λ (z : ℤ). pos 0 <ℤ z) (sym (through_is e.a e.b p)) hp.0;
    q_left = subst (λ (z : ℤ). pos 0 <ℤ z) (sym (through_is e.a e.b q)) hq.0;
  },
  own_lines p q es hp.1 hq.1,
)
  where
    level : {z : ℤ} → z ≡ pos 0 → z ≤ℤ pos 0
    level {z} e = omega (arith, ints)

pub by_corners : {A : Type 0} (cs : List Point) → IsStrictlyConvex cs → ((o u w : Point) (ws : List Point) → IsConvexFrom o u w ws → cs ≡ o ∷ u ∷ w ∷ ws → A) → A
by_corners [] v k = absurd (omega (arith, v.enough))
by_corners (o ∷ []) v k = absurd (omega (arith, v.enough))
by_corners (o ∷ u ∷ []) v k = absurd (omega (arith, v.enough))
by_corners (o ∷ u ∷ w ∷ ws) v k = k o u w ws (convex_from o u w ws v) refl

pub polygon_inside : (cs : List Point) (q : RatPoint) → IsStrictlyConvex cs → IsRational q → IsInPolygon q cs → wind q (sides cs) ≡ pos 1
polygon_inside cs q v kq i = by_corners cs v (λ o u w ws p e. subst (λ (l : List Point). IsInPolygon q l → wind q (sides l) ≡ pos 1) (sym e) (λ i. at_third o u w ws p i) i)
  where
    at_third : (o u w : Point) (ws : List Point) → IsConvexFrom o u w ws → IsInPolygon q (o ∷ u ∷ w ∷ ws) → wind q (sides (o ∷ u ∷ w ∷ ws)) ≡ pos 1
    at_third o u w ws p i = uncrossed q (centre o u w) (sides (o ∷ u ∷ w ∷ ws)) (sides_closed (o ∷ u ∷ w ∷ ws)) kq (record { positive = omega (arith, ints) }) (own_lines q (centre o u w) (sides (o ∷ u ∷ w ∷ ws)) i.left (third_inside o u w ws p)) ∙ third_wind o u w ws p

-- ---- the closed polygon: a line with all corners on its closed left has each of its points there
mixed_side : (n : ℤ) (q z : RatPoint) (a b : Point) → pos 0 ≤ℤ n → pos 0 ≤ℤ orient_rat a b q → pos 0 <ℤ orient_rat a b z → pos 0 <ℤ side (through a b) (mix n q z)
mixed_side n q z a b hn hq hz = added (side_mix (through a b) n q z) (through_is a b z) (nn_mul n (side (through a b) q) hn (subst (λ (z : ℤ). pos 0 ≤ℤ z) (sym (through_is a b q)) hq)) hz
  where
    added : {m x y t : ℤ} → m ≡ x +ℤ y → y ≡ t → pos 0 ≤ℤ x → pos 0 <ℤ t → pos 0 <ℤ m
    added {m} {x} {y} {t} e f h j = omega (arith, ints)

mixed_sides : (n : ℤ) (q z : RatPoint) (es : List Edge) → pos 0 ≤ℤ n → AllByRecursion (λ e. pos 0 ≤ℤ orient_rat e.a e.b q) es → AllByRecursion (λ e. pos 0 <ℤ orient_rat e.a e.b z) es → AllByRecursion (λ s. pos 0 <ℤ side s (mix n q z)) (lines es)
mixed_sides n q z [] hn hq hz = tt
mixed_sides n q z (e ∷ es) hn hq hz = (mixed_side n q z e.a e.b hn hq.0 hz.0, mixed_sides n q z es hn hq.1 hz.1)

-- n s + t is never below 0, so s is not
never_below : (s t m : ℤ) → pos 0 ≤ℤ t → m ≡ (t +ℤ pos 1) *ℤ s +ℤ t → pos 0 ≤ℤ m → s <ℤ pos 0 → ⊥
never_below s t m ht e h j = omega (arith, ints, e, spread, nn_mul (t +ℤ pos 1) (pos 0 -ℤ pos 1 -ℤ s) (omega (arith, ints)) (omega (arith, ints)))
  where
    spread : (t +ℤ pos 1) *ℤ (pos 0 -ℤ pos 1 -ℤ s) ≡ pos 0 -ℤ (t +ℤ pos 1) -ℤ (t +ℤ pos 1) *ℤ s
    spread = ring (t ∷ s ∷ []) ((var 0 ⊕ num (pos 1)) ⊗ (num (pos 0) ⊖ num (pos 1) ⊖ var 1)) (num (pos 0) ⊖ (var 0 ⊕ num (pos 1)) ⊖ (var 0 ⊕ num (pos 1)) ⊗ var 1) refl

closed_left : (l : Line) (o u : Point) (ws : List Point) (q z : RatPoint) → IsFan o u ws → AreLeftOf l (o ∷ u ∷ ws) → AllByRecursion (λ e. pos 0 ≤ℤ orient_rat e.a e.b q) (sides (o ∷ u ∷ ws)) → AllByRecursion (λ e. pos 0 <ℤ orient_rat e.a e.b z) (sides (o ∷ u ∷ ws)) → pos 0 ≤ℤ side l q
closed_left l o u ws q z f hl hq hz = elim (either (pos 0) (side l q)) [
  | inl h ↦ h
  | inr h ↦ absurd (never_below (side l q) (side l z) (side l (mix n q z)) z_left (side_mix l n q z)
      (weakly_left l o u ws (mix n q z) (record { fan = f }) hl.0 hl.1.0 hl.1.1 (mixed_sides n q z (sides (o ∷ u ∷ ws)) some hq hz)) h)
]
  where
    z_left : pos 0 ≤ℤ side l z
    z_left = weakly_left l o u ws z (record { fan = f }) hl.0 hl.1.0 hl.1.1 (inside_lines z (sides (o ∷ u ∷ ws)) hz)

    n : ℤ
    n = side l z +ℤ pos 1

    some : pos 0 ≤ℤ n
    some = more z_left
      where
        more : {t : ℤ} → pos 0 ≤ℤ t → pos 0 ≤ℤ (t +ℤ pos 1)
        more {t} h = omega (arith, ints)

-- ---- a point of the closed polygon on the line of a side is on that side
-- the line of a side, turned about the side towards the polygon by another line
abbrev slanted : ℤ → Line → Line → Line
slanted n l b = record { a = n *ℤ l.a -ℤ b.a; b = n *ℤ l.b -ℤ b.b; c = n *ℤ l.c -ℤ b.c }

side_slanted : (n : ℤ) (l b : Line) (q : RatPoint) → side (slanted n l b) q ≡ n *ℤ side l q -ℤ side b q
side_slanted n l b q = ring (n ∷ l.a ∷ l.b ∷ l.c ∷ b.a ∷ b.b ∷ b.c ∷ q.x ∷ q.y ∷ q.k ∷ [])
    ((var 0 ⊗ var 1 ⊖ var 4) ⊗ var 7 ⊕ (var 0 ⊗ var 2 ⊖ var 5) ⊗ var 8 ⊕ (var 0 ⊗ var 3 ⊖ var 6) ⊗ var 9)
    (var 0 ⊗ (var 1 ⊗ var 7 ⊕ var 2 ⊗ var 8 ⊕ var 3 ⊗ var 9) ⊖ (var 4 ⊗ var 7 ⊕ var 5 ⊗ var 8 ⊕ var 6 ⊗ var 9)) refl

-- as much as a line's value at any of the corners
abbrev most : Line → List Point → ℤ
most b [] = pos 0
most b (c ∷ cs) = side b (whole c) *ℤ side b (whole c) +ℤ most b cs

most_nn : (b : Line) (cs : List Point) → pos 0 ≤ℤ most b cs
most_nn b [] = omega (arith, ints)
most_nn b (c ∷ cs) = sum (nn_square (side b (whole c))) (most_nn b cs)
  where
    sum : {x y : ℤ} → pos 0 ≤ℤ x → pos 0 ≤ℤ y → pos 0 ≤ℤ (x +ℤ y)
    sum {x} {y} h j = omega (arith, ints)

outweighed : (n l b m : ℤ) → m ≡ n *ℤ l -ℤ b → (b *ℤ b) ≤ℤ n → pos 0 <ℤ l → pos 0 ≤ℤ m
outweighed n l b m e h hl = omega (arith, ints, e, less n l, nn_mul n (l -ℤ pos 1) (omega (arith, ints, nn_square b)) (omega (arith, ints)), square_above b)
  where
    less : (n l : ℤ) → n *ℤ (l -ℤ pos 1) ≡ n *ℤ l -ℤ n
    less n l = ring (n ∷ l ∷ []) (var 0 ⊗ (var 1 ⊖ num (pos 1))) (var 0 ⊗ var 1 ⊖ var 0) refl

    square_above : (b : ℤ) → b ≤ℤ (b *ℤ b)
    square_above b = elim (either b (pos 0)) [ inl h ↦ omega (arith, ints, nn_square b) | inr h ↦ omega (arith, ints, less b b, nn_mul b (b -ℤ pos 1) (omega (arith, ints)) (omega (arith, ints))) ]

flat_line : (n l b m : ℤ) → m ≡ n *ℤ l -ℤ b → l ≡ pos 0 → b ≤ℤ pos 0 → pos 0 ≤ℤ m
flat_line n l b m e f h = omega (arith, ints, subst (λ (z : ℤ). m ≡ n *ℤ z -ℤ b) f e)

at_corner : (n : ℤ) (e : Edge) (b : Line) (c : Point) → IsEndOrLeft e c → side b (whole e.a) ≤ℤ pos 0 → side b (whole e.b) ≤ℤ pos 0 → (side b (whole c) *ℤ side b (whole c)) ≤ℤ n → pos 0 ≤ℤ side (slanted n (through e.a e.b) b) (whole c)
at_corner n e b c (inl h) ha hb s = subst (λ (c : Point). pos 0 ≤ℤ side (slanted n (through e.a e.b) b) (whole c)) (sym h)
    (flat_line n (side (through e.a e.b) (whole e.a)) (side b (whole e.a)) (side (slanted n (through e.a e.b) b) (whole e.a)) (side_slanted n (through e.a e.b) b (whole e.a)) (through_is e.a e.b (whole e.a) ∙ orient_whole e.a e.b e.a ∙ flat_first e.a e.b) ha)
at_corner n e b c (inr (inl h)) ha hb s = subst (λ (c : Point). pos 0 ≤ℤ side (slanted n (through e.a e.b) b) (whole c)) (sym h)
    (flat_line n (side (through e.a e.b) (whole e.b)) (side b (whole e.b)) (side (slanted n (through e.a e.b) b) (whole e.b)) (side_slanted n (through e.a e.b) b (whole e.b)) (through_is e.a e.b (whole e.b) ∙ orient_whole e.a e.b e.b ∙ flat_second e.a e.b) hb)
at_corner n e b c (inr (inr h)) ha hb s = outweighed n (side (through e.a e.b) (whole c)) (side b (whole c)) (side (slanted n (through e.a e.b) b) (whole c)) (side_slanted n (through e.a e.b) b (whole c)) s
    (subst (λ (z : ℤ). pos 0 <ℤ z) (sym (through_is e.a e.b (whole c) ∙ orient_whole e.a e.b c)) h)

at_corners : (n : ℤ) (e : Edge) (b : Line) (cs : List Point) → AllByRecursion (IsEndOrLeft e) cs → side b (whole e.a) ≤ℤ pos 0 → side b (whole e.b) ≤ℤ pos 0 → most b cs ≤ℤ n → AreLeftOf (slanted n (through e.a e.b) b) cs
at_corners n e b [] all ha hb h = tt
at_corners n e b (c ∷ cs) all ha hb h = (at_corner n e b c all.0 ha hb (first (most_nn b cs) h), at_corners n e b cs all.1 ha hb (rest (nn_square (side b (whole c))) h))
  where
    first : {x y n : ℤ} → pos 0 ≤ℤ y → (x +ℤ y) ≤ℤ n → x ≤ℤ n
    first {x} {y} {n} h j = omega (arith, ints)

    rest : {x y n : ℤ} → pos 0 ≤ℤ x → (x +ℤ y) ≤ℤ n → y ≤ℤ n
    rest {x} {y} {n} h j = omega (arith, ints)

-- the polygon, and a point of it that is on no outer side
record IsInClosed (o u : Point) (ws : List Point) (q z : RatPoint) : Type 0 where
  fan : IsFan o u ws
  weak : AllByRecursion (λ e. pos 0 ≤ℤ orient_rat e.a e.b q) (sides (o ∷ u ∷ ws))
  centre : AllByRecursion (λ e. pos 0 <ℤ orient_rat e.a e.b z) (sides (o ∷ u ∷ ws))

-- where a line has both ends of a side on its closed right, it has q there too, if q is on the line of that side
not_past : (o u : Point) (ws : List Point) (q z : RatPoint) (e : Edge) (b : Line) → IsInClosed o u ws q z → AllByRecursion (IsEndOrLeft e) (o ∷ u ∷ ws) → orient_rat e.a e.b q ≡ pos 0 → side b (whole e.a) ≤ℤ pos 0 → side b (whole e.b) ≤ℤ pos 0 → side b q ≤ℤ pos 0
not_past o u ws q z e b i all f ha hb = kept (side (through e.a e.b) q) (side b q) (side (slanted n (through e.a e.b) b) q) (side_slanted n (through e.a e.b) b q) (through_is e.a e.b q ∙ f)
    (closed_left (slanted n (through e.a e.b) b) o u ws q z i.fan (at_corners n e b (o ∷ u ∷ ws) all ha hb (same n)) i.weak i.centre)
  where
    n : ℤ
    n = most b (o ∷ u ∷ ws)

    same : (z : ℤ) → z ≤ℤ z
    same z = omega (arith, ints)

    kept : (l b m : ℤ) → m ≡ n *ℤ l -ℤ b → l ≡ pos 0 → pos 0 ≤ℤ m → b ≤ℤ pos 0
    kept l b m e f h = dropped n b m (subst (λ (z : ℤ). m ≡ n *ℤ z -ℤ b) f e) h
      where
        dropped : (n b m : ℤ) → m ≡ n *ℤ pos 0 -ℤ b → pos 0 ≤ℤ m → b ≤ℤ pos 0
        dropped n b m e h = omega (arith, ints, e)

on_own_side : (o u : Point) (ws : List Point) (q z : RatPoint) (e : Edge) → IsInClosed o u ws q z → AllByRecursion (IsEndOrLeft e) (o ∷ u ∷ ws) → orient_rat e.a e.b q ≡ pos 0 → IsOnClosed q e.a e.b
on_own_side o u ws q z e i all f = record {
  straight = f;
  right_of_least = omega (arith, ints, clamps, not_past o u ws q z e (record { a = negsuc 0; b = pos 0; c = int_min e.a.x e.b.x }) i all f (omega (arith, ints, clamps)) (omega (arith, ints, clamps)));
  left_of_greatest = omega (arith, ints, neg_times (int_max e.a.x e.b.x) q.k, not_past o u ws q z e (record { a = pos 1; b = pos 0; c = pos 0 -ℤ int_max e.a.x e.b.x }) i all f (omega (arith, ints, clamps)) (omega (arith, ints, clamps)));
  above_least = omega (arith, ints, clamps, not_past o u ws q z e (record { a = pos 0; b = negsuc 0; c = int_min e.a.y e.b.y }) i all f (omega (arith, ints, clamps)) (omega (arith, ints, clamps)));
  below_greatest = omega (arith, ints, neg_times (int_max e.a.y e.b.y) q.k, not_past o u ws q z e (record { a = pos 0; b = pos 1; c = pos 0 -ℤ int_max e.a.y e.b.y }) i all f (omega (arith, ints, clamps)) (omega (arith, ints, clamps)));
}
  where
    neg_times : (m k : ℤ) → (pos 0 -ℤ m) *ℤ k ≡ pos 0 -ℤ m *ℤ k
    neg_times m k = ring (m ∷ k ∷ []) ((num (pos 0) ⊖ var 0) ⊗ var 1) (num (pos 0) ⊖ var 0 ⊗ var 1) refl

-- ---- outside
-- an edge that has q strictly on its right, with a fact about it
record IsOutsideSome (q : RatPoint) (P : Edge → Type 0) : Type 0 where
  at : Edge
  right : orient_rat at.a at.b q <ℤ pos 0
  fact : P at

weak_or_outside : (q : RatPoint) (P : Edge → Type 0) (es : List Edge) → AllByRecursion P es → AllByRecursion (λ e. pos 0 ≤ℤ orient_rat e.a e.b q) es ⊎ IsOutsideSome q P
weak_or_outside q P [] all = inl tt
weak_or_outside q P (e ∷ es) all = elim (either (pos 0) (orient_rat e.a e.b q)) [
  | inr h ↦ inr (record { at = e; right = h; fact = all.0 })
  | inl h ↦ elim (weak_or_outside q P es all.1) [ inl i ↦ inl (h, i) | inr r ↦ inr r ]
]

-- on no side, so strictly left of each
strictly : (o u : Point) (ws : List Point) (q z : RatPoint) (es : List Edge) → IsInClosed o u ws q z → AllByRecursion (λ e. AllByRecursion (IsEndOrLeft e) (o ∷ u ∷ ws)) es → AllByRecursion (λ e. pos 0 ≤ℤ orient_rat e.a e.b q) es → IsOff q es → AllByRecursion (λ e. pos 0 <ℤ orient_rat e.a e.b q) es
strictly o u ws q z [] i all weak off = tt
strictly o u ws q z (e ∷ es) i all weak off = (
  elim (either (orient_rat e.a e.b q) (pos 0)) [ inr h ↦ h | inl h ↦ absurd (off.0 (on_own_side o u ws q z e i all.0 (exact weak.0 h))) ],
  strictly o u ws q z es i all.1 weak.1 off.1,
)
  where
    exact : {z : ℤ} → pos 0 ≤ℤ z → z ≤ℤ pos 0 → z ≡ pos 0
    exact {z} i j = omega (arith, ints)

pub weak_ends : (e : Edge) (cs : List Point) → AllByRecursion (IsEndOrLeft e) cs → AllByRecursion (λ c. pos 0 ≤ℤ orient e.a e.b c) cs
weak_ends e [] all = tt
weak_ends e (c ∷ cs) all = (weak_end e c all.0, weak_ends e cs all.1)

pub polygon_outside : (cs : List Point) (q : RatPoint) → IsStrictlyConvex cs → IsRational q → IsOff q (sides cs) → ¬ (IsInPolygon q cs) → wind q (sides cs) ≡ pos 0
polygon_outside cs q v kq off out = by_corners cs v (λ o u w ws p e. subst (λ (l : List Point). IsOff q (sides l) → ¬ (IsInPolygon q l) → wind q (sides l) ≡ pos 0) (sym e) (λ f n. away o u w ws p f n) off out)
  where
    away : (o u w : Point) (ws : List Point) → IsConvexFrom o u w ws → IsOff q (sides (o ∷ u ∷ w ∷ ws)) → ¬ (IsInPolygon q (o ∷ u ∷ w ∷ ws)) → wind q (sides (o ∷ u ∷ w ∷ ws)) ≡ pos 0
    away o u w ws p f n = elim (weak_or_outside q (λ e. AllByRecursion (IsEndOrLeft e) (o ∷ u ∷ w ∷ ws)) (sides (o ∷ u ∷ w ∷ ws)) p.strict) [
      | inr r ↦ polygon_beyond r.at.a r.at.b q o (u ∷ w ∷ ws) kq r.right (weak_ends r.at (o ∷ u ∷ w ∷ ws) r.fact)
      | inl h ↦ absurd (n (record { left = strictly o u (w ∷ ws) q (centre o u w) (sides (o ∷ u ∷ w ∷ ws)) (record { fan = p.fan; weak = h; centre = third_inside o u w ws p }) p.strict h f }))
    ]
