-- Polygons of any number of corners: a line with all corners on its closed left has the open polygon on its open left (`polygon_left`), and the sum
-- of the corners is in the open polygon (`sum_left`). A polygon is its first corner o, the next u, and the others. Stands on Triangle and Near.
use lib.IntN.{ℤ, pos, ◌+ℤ◌, ◌-ℤ◌, ◌*ℤ◌}
use lib.Signed.{◌<ℤ◌, ◌≤ℤ◌}
use mathlib.Core.Path.{◌≡◌, refl, ◌∙◌, subst}
use mathlib.Core.List.{List, [], ◌∷◌}
use mathlib.Core.Logic.{◌⊎◌, inl, inr}
use native.Mathlib.Omega.{arith}
use Rattle.std.proofs.lemmas.Int.{ints}
use Rattle.std.specs.List.{AllByRecursion}
use Rattle.grid_geom.specs.declared.Point.{Point}
use Rattle.grid_geom.specs.declared.RatPoint.{RatPoint}
use Rattle.grid_geom.specs.declared.Edge.{Edge}
use Rattle.grid_geom.specs.Polygon.{way_round, sides}
use Rattle.grid_geom.specs.Plane.{orient, orient_rat}
use Rattle.grid_geom.specs.Line.{Line, side, whole, through}
use Rattle.grid_geom.proofs.Ring.{var, num, ◌⊕◌, ◌⊖◌, ◌⊗◌, ring}
use Rattle.grid_geom.proofs.Signs.{nn_mul, either, le_cancel, pos_factor}
use Rattle.grid_geom.proofs.Lines.{through_is, orient_back}
use Rattle.grid_geom.proofs.Triangle.{mean_side}
use Rattle.grid_geom.proofs.Near.{mix, side_mix, bound, bound_pos, turn_all, IsWedge, IsDirected}

-- the lines of edges
abbrev pub lines : List Edge → List Line
lines [] = []
lines (e ∷ es) = through e.a e.b ∷ lines es

-- a polygon by its first corner o and the others; the lines of its sides from u on
abbrev pub sides_from : Point → Point → List Point → List Line
sides_from o u ws = lines (way_round o u ws)

-- each side has the first corner strictly on its left
abbrev pub IsFan : Point → Point → List Point → Type 0
IsFan o u [] = Unit {0}
IsFan o u (w ∷ ws) = (pos 0 <ℤ orient o u w) × IsFan o w ws

abbrev pub AreLeftOf : Line → List Point → Type 0
AreLeftOf l ws = AllByRecursion (λ w. pos 0 ≤ℤ side l (whole w)) ws

weak_mean : (d f g h s x y z : ℤ) → d *ℤ s ≡ f *ℤ x +ℤ g *ℤ y +ℤ h *ℤ z → pos 0 <ℤ d → pos 0 ≤ℤ f → pos 0 ≤ℤ g → pos 0 ≤ℤ h → pos 0 ≤ℤ x → pos 0 ≤ℤ y → pos 0 ≤ℤ z → pos 0 ≤ℤ s
weak_mean d f g h s x y z e hd hf hg hh hx hy hz = le_cancel (pos 0) s d hd (omega (arith, ints, e, nn_mul f x hf hx, nn_mul g y hg hy, nn_mul h z hh hz))

-- a line with all corners on its closed left has each point of the polygon there
fan_left : (l : Line) (o u : Point) (ws : List Point) (q : RatPoint) → IsFan o u ws → pos 0 ≤ℤ side l (whole o) → pos 0 ≤ℤ side l (whole u) → AreLeftOf l ws → pos 0 ≤ℤ orient_rat o u q → AllByRecursion (λ s. pos 0 <ℤ side s q) (sides_from o u ws) → pos 0 ≤ℤ side l q
fan_left l o u [] q f ho hu hw h s = absurd (clash (orient_rat o u q) (through_is u o q ∙ orient_back o u q) h s.0)
  where
    clash : (z : ℤ) {y : ℤ} → y ≡ pos 0 -ℤ z → pos 0 ≤ℤ z → pos 0 <ℤ y → ⊥
    clash z {y} e h j = omega (arith, ints)
fan_left l o u (w ∷ ws) q f ho hu hw h s = elim (either (orient_rat o w q) (pos 0)) [
  | inr j ↦ fan_left l o w ws q f.1 ho hw.0 hw.1 (weak j) s.1
  | inl j ↦ weak_mean (orient o u w) (orient_rat u w q) (orient_rat w o q) (orient_rat o u q) (side l q) (side l (whole o)) (side l (whole u)) (side l (whole w)) (mean_side l o u w q) f.0
      (weak (subst (λ (z : ℤ). pos 0 <ℤ z) (through_is u w q) s.0)) (turned (orient_back o w q) j) h ho hu hw.0
]
  where
    weak : {z : ℤ} → pos 0 <ℤ z → pos 0 ≤ℤ z
    weak {z} h = omega (arith, ints)

    turned : {y z : ℤ} → y ≡ pos 0 -ℤ z → z ≤ℤ pos 0 → pos 0 ≤ℤ y
    turned {y} {z} e h = omega (arith, ints)

pub record IsPolygon (o u : Point) (ws : List Point) : Type 0 where
  pub fan : IsFan o u ws

-- the lines of all its sides
abbrev pub polygon_sides : Point → Point → List Point → List Line
polygon_sides o u ws = lines (sides (o ∷ (u ∷ ws)))

pub weakly_left : (l : Line) (o u : Point) (ws : List Point) (q : RatPoint) → IsPolygon o u ws → pos 0 ≤ℤ side l (whole o) → pos 0 ≤ℤ side l (whole u) → AreLeftOf l ws → AllByRecursion (λ s. pos 0 <ℤ side s q) (polygon_sides o u ws) → pos 0 ≤ℤ side l q
weakly_left l o u ws q p ho hu hw s = fan_left l o u ws q p.fan ho hu hw (weak (subst (λ (z : ℤ). pos 0 <ℤ z) (through_is o u q) s.0)) s.1
  where
    weak : {z : ℤ} → pos 0 <ℤ z → pos 0 ≤ℤ z
    weak {z} h = omega (arith, ints)

-- against the direction of l
abbrev against : Line → RatPoint
against l = record { x = pos 0 -ℤ l.a; y = pos 0 -ℤ l.b; k = pos 0 }

side_against : (l : Line) → side l (against l) ≡ pos 0 -ℤ (l.a *ℤ l.a +ℤ l.b *ℤ l.b)
side_against l = ring (l.a ∷ l.b ∷ l.c ∷ []) (var 0 ⊗ (num (pos 0) ⊖ var 0) ⊕ var 1 ⊗ (num (pos 0) ⊖ var 1) ⊕ var 2 ⊗ num (pos 0)) (num (pos 0) ⊖ (var 0 ⊗ var 0 ⊕ var 1 ⊗ var 1)) refl

wedges : (q : RatPoint) (ls : List Line) → AllByRecursion (λ s. pos 0 <ℤ side s q) ls → AllByRecursion (IsWedge q q) ls
wedges q [] h = tt
wedges q (l ∷ ls) h = (record { v_left = weak h.0; w_left = h.0 }, wedges q ls h.1)
  where
    weak : {z : ℤ} → pos 0 <ℤ z → pos 0 ≤ℤ z
    weak {z} h = omega (arith, ints)

unwedge : (q r : RatPoint) (ls : List Line) → AllByRecursion (IsWedge q r) ls → AllByRecursion (λ s. pos 0 <ℤ side s r) ls
unwedge q r [] h = tt
unwedge q r (l ∷ ls) h = (h.0.w_left, unwedge q r ls h.1)

strict : (b s n d m : ℤ) → m ≡ b *ℤ s +ℤ n → n ≡ pos 0 -ℤ d → pos 0 <ℤ d → pos 0 ≤ℤ m → pos 1 ≤ℤ b → pos 0 <ℤ s
strict b s n d m e f hd hm hb = pos_factor b s (omega (arith, ints)) (omega (arith, ints))

-- and strictly so, if the line has a direction
pub polygon_left : (l : Line) (o u : Point) (ws : List Point) (q : RatPoint) → IsPolygon o u ws → IsDirected l → pos 0 ≤ℤ side l (whole o) → pos 0 ≤ℤ side l (whole u) → AreLeftOf l ws → AllByRecursion (λ s. pos 0 <ℤ side s q) (polygon_sides o u ws) → pos 0 <ℤ side l q
polygon_left l o u ws q p d ho hu hw s = strict (bound ls n) (side l q) (side l n) (l.a *ℤ l.a +ℤ l.b *ℤ l.b) (side l (mix (bound ls n) q n)) (side_mix l (bound ls n) q n) (side_against l) d.direction
    (weakly_left l o u ws (mix (bound ls n) q n) p ho hu hw (unwedge q (mix (bound ls n) q n) ls (turn_all (bound ls n) q q n ls (same (bound ls n)) (wedges q ls s)))) (bound_pos ls n)
  where
    ls : List Line
    ls = polygon_sides o u ws

    n : RatPoint
    n = against l

    same : (z : ℤ) → z ≤ℤ z
    same z = omega (arith, ints)

-- ---- the centre
abbrev pub sum_of : Point → List Point → RatPoint
sum_of o [] = whole o
sum_of o (w ∷ ws) = mix (pos 1) (whole w) (sum_of o ws)

pub sum_rational : (o : Point) (ws : List Point) → pos 0 <ℤ (sum_of o ws).k
sum_rational o [] = omega (arith, ints)
sum_rational o (w ∷ ws) = more (sum_rational o ws)
  where
    more : {z : ℤ} → pos 0 <ℤ z → pos 0 <ℤ (pos 1 *ℤ pos 1 +ℤ z)
    more {z} h = omega (arith, ints)

-- some corner is strictly left
abbrev pub IsSomeLeft : Line → Point → List Point → Type 0
IsSomeLeft l o [] = pos 0 <ℤ side l (whole o)
IsSomeLeft l o (w ∷ ws) = (pos 0 <ℤ side l (whole w)) ⊎ IsSomeLeft l o ws

sum_weak : (l : Line) (o : Point) (ws : List Point) → pos 0 ≤ℤ side l (whole o) → AreLeftOf l ws → pos 0 ≤ℤ side l (sum_of o ws)
sum_weak l o [] ho hw = ho
sum_weak l o (w ∷ ws) ho hw = added (side_mix l (pos 1) (whole w) (sum_of o ws)) hw.0 (sum_weak l o ws ho hw.1)
  where
    added : {s x y : ℤ} → s ≡ pos 1 *ℤ x +ℤ y → pos 0 ≤ℤ x → pos 0 ≤ℤ y → pos 0 ≤ℤ s
    added {s} {x} {y} e h j = omega (arith, ints)

pub sum_left : (l : Line) (o : Point) (ws : List Point) → pos 0 ≤ℤ side l (whole o) → AreLeftOf l ws → IsSomeLeft l o ws → pos 0 <ℤ side l (sum_of o ws)
sum_left l o [] ho hw h = h
sum_left l o (w ∷ ws) ho hw (inl h) = added (side_mix l (pos 1) (whole w) (sum_of o ws)) h (sum_weak l o ws ho hw.1)
  where
    added : {s x y : ℤ} → s ≡ pos 1 *ℤ x +ℤ y → pos 0 <ℤ x → pos 0 ≤ℤ y → pos 0 <ℤ s
    added {s} {x} {y} e h j = omega (arith, ints)
sum_left l o (w ∷ ws) ho hw (inr h) = added (side_mix l (pos 1) (whole w) (sum_of o ws)) hw.0 (sum_left l o ws ho hw.1 h)
  where
    added : {s x y : ℤ} → s ≡ pos 1 *ℤ x +ℤ y → pos 0 ≤ℤ x → pos 0 <ℤ y → pos 0 <ℤ s
    added {s} {x} {y} e h j = omega (arith, ints)
