-- Gluing keeps the chain: the front before is the element's sides and the front after, as chains. So winding numbers and doubled areas add up, and a closed front stays closed.
-- Any function of edges that changes its sign with the direction loses at each side what the side has. Stands on wind_law's SameChain.
use Prim.Native.Nat.{ℕ, ◌+◌}
use lib.IntN.{ℤ, pos, ◌+ℤ◌, ◌-ℤ◌}
use lib.Signed.{◌<ℤ◌, ◌≤ℤ◌}
use mathlib.Core.Path.{◌≡◌, refl, sym, ap, ◌∙◌, subst}
use mathlib.Core.Bool.{Bool, true, false, cond}
use mathlib.Core.List.{List, [], ◌∷◌, ◌++◌}
use native.Mathlib.Omega.{arith}
use Rattle.std.proofs.lemmas.Int.{ints}
use Rattle.grid_geom.specs.declared.Point.{Point}
use Rattle.grid_geom.specs.declared.RatPoint.{RatPoint}
use Rattle.grid_geom.specs.declared.Edge.{Edge}
use Rattle.grid_geom.specs.Plane.{orient}
use Rattle.grid_geom.specs.Polygon.{sides, way_round, IsStrictlyConvex}
use Rattle.grid_geom.specs.Area.{sweep_of, shoelace}
use Rattle.grid_geom.specs.Winding.{and, wind}
use Rattle.grid_geom.specs.Closed.{same_point, leaving, arriving, IsClosed}
use Rattle.grid_geom.proofs.Ring.{var, ◌⊕◌, ◌⊖◌, ◌⊗◌, ring}
use Rattle.grid_geom.proofs.Areas.{shoelace-append}
use Rattle.grid_geom.proofs.Polygon.{IsFan}
use Rattle.wind_law.specs.Chains.{edge, back, same_edge, times, IsSameChain}
use Rattle.wind_law.proofs.Counting.{total}
use Rattle.wind_law.proofs.ClosedSums.{edge_test}
use Rattle.wind_law.proofs.SameChain.{IsOdd, same_wind, same_area, same_closed, area_back}
use Rattle.wind_law.proofs.Additive.{wind_append}
use Rattle.wind_law.proofs.Polygons.{by_corners, sides_closed}
use Rattle.state_law.specs.Gluing.{glue_side, glue_sides, glue}
use Rattle.state_law.specs.Net.{net}

-- ---- one side
glue_total : (f : Edge → ℤ) → IsOdd f → (es : List Edge) (s : Edge) → total f es ≡ total f (glue_side es s) +ℤ f s
glue_total f odd [] s = none (f (back s)) (f s) (odd s)
  where
    none : (a b : ℤ) → a ≡ pos 0 -ℤ b → pos 0 ≡ (a +ℤ pos 0) +ℤ b
    none a b e = omega (arith, ints)
glue_total f odd (e ∷ es) s = (elim (same_edge e s) as (λ (b : Bool). same_edge e s ≡ b → f e +ℤ total f es ≡ total f (elim b [ true ↦ es | false ↦ e ∷ glue_side es s ]) +ℤ f s) [
  | true ↦ λ h. ap (λ (z : Edge). f z +ℤ total f es) (edge_test.sound e s h) ∙ other (f s) (total f es)
  | false ↦ λ h. more (f e) (total f es) (total f (glue_side es s)) (f s) (glue_total f odd es s)
]) refl
  where
    other : (a b : ℤ) → a +ℤ b ≡ b +ℤ a
    other a b = omega (arith, ints)

    more : (a b c d : ℤ) → b ≡ c +ℤ d → a +ℤ b ≡ (a +ℤ c) +ℤ d
    more a b c d e = omega (arith, ints)

-- ---- all sides
pub glue_all_total : (f : Edge → ℤ) → IsOdd f → (es ss : List Edge) → total f es ≡ total f (glue_sides es ss) +ℤ total f ss
glue_all_total f odd es [] = none (total f es)
  where
    none : (a : ℤ) → a ≡ a +ℤ pos 0
    none a = omega (arith, ints)
glue_all_total f odd es (s ∷ ss) = joined (total f es) (total f (glue_side es s)) (f s) (total f (glue_sides (glue_side es s) ss)) (total f ss) (glue_total f odd es s) (glue_all_total f odd (glue_side es s) ss)
  where
    joined : (a b c d e : ℤ) → a ≡ b +ℤ c → b ≡ d +ℤ e → a ≡ d +ℤ (c +ℤ e)
    joined a b c d e h i = omega (arith, ints)

-- ---- as chains
and_turn : (a b : Bool) → and a b ≡ and b a
and_turn true true = refl
and_turn true false = refl
and_turn false true = refl
and_turn false false = refl

-- 1 at x, -1 at its reverse
abbrev one : Edge → Edge → ℤ
one x e = pos (cond (same_edge e x) 1 0) -ℤ pos (cond (same_edge e (back x)) 1 0)

one_odd : (x : Edge) → IsOdd (one x)
one_odd x e = ap (λ (b : Bool). pos (cond b 1 0) -ℤ pos (cond (same_edge (back e) (back x)) 1 0)) (and_turn (same_point e.b x.a) (same_point e.a x.b))
    ∙ ap (λ (b : Bool). pos (cond (same_edge e (back x)) 1 0) -ℤ pos (cond b 1 0)) (and_turn (same_point e.b x.b) (same_point e.a x.a))
    ∙ turned (pos (cond (same_edge e (back x)) 1 0)) (pos (cond (same_edge e x) 1 0))
  where
    turned : (x y : ℤ) → x -ℤ y ≡ pos 0 -ℤ (y -ℤ x)
    turned x y = omega (arith, ints)

total_one : (x : Edge) (es : List Edge) → total (one x) es ≡ pos (times x es) -ℤ pos (times (back x) es)
total_one x [] = refl
total_one x (e ∷ es) = joined (cond (same_edge e x) 1 0) (cond (same_edge e (back x)) 1 0) (times x es) (times (back x) es) (total (one x) es) (total_one x es)
  where
    joined : (a b l r : ℕ) (t : ℤ) → t ≡ pos l -ℤ pos r → (pos a -ℤ pos b) +ℤ t ≡ pos (a + l) -ℤ pos (b + r)
    joined a b l r t e = omega (arith, ints)

total_append : (f : Edge → ℤ) (es fs : List Edge) → total f (es ++ fs) ≡ total f es +ℤ total f fs
total_append f [] fs = none (total f fs)
  where
    none : (n : ℤ) → n ≡ pos 0 +ℤ n
    none n = omega (arith, ints)
total_append f (e ∷ es) fs = more (f e) (total f es) (total f fs) (total f (es ++ fs)) (total_append f es fs)
  where
    more : (a b c d : ℤ) → d ≡ b +ℤ c → a +ℤ d ≡ (a +ℤ b) +ℤ c
    more a b c d e = omega (arith, ints)

pub net_append : (x : Edge) (es fs : List Edge) → net x (es ++ fs) ≡ net x es +ℤ net x fs
net_append x es fs = sym (total_one x (es ++ fs)) ∙ total_append (one x) es fs ∙ ap (λ (z : ℤ). z +ℤ total (one x) fs) (total_one x es) ∙ ap (λ (z : ℤ). net x es +ℤ z) (total_one x fs)

pub glued_net : (x : Edge) (es ss : List Edge) → net x es ≡ net x (glue_sides es ss) +ℤ net x ss
glued_net x es ss = sym (total_one x es) ∙ glue_all_total (one x) (one_odd x) es ss ∙ ap (λ (z : ℤ). z +ℤ total (one x) ss) (total_one x (glue_sides es ss)) ∙ ap (λ (z : ℤ). net x (glue_sides es ss) +ℤ z) (total_one x ss)

pub glued_chain : (es ss : List Edge) → IsSameChain es (ss ++ glue_sides es ss)
glued_chain es ss = record {
  balanced = λ x. balanced (times x es) (times (back x) es) (times x (ss ++ glue_sides es ss)) (times (back x) (ss ++ glue_sides es ss)) (total (one x) es) (total (one x) (ss ++ glue_sides es ss)) (total (one x) (glue_sides es ss)) (total (one x) ss)
      (total_one x es) (total_one x (ss ++ glue_sides es ss)) (total_append (one x) ss (glue_sides es ss)) (glue_all_total (one x) (one_odd x) es ss);
}
  where
    balanced : (a b c d : ℕ) (s t u v : ℤ) → s ≡ pos a -ℤ pos b → t ≡ pos c -ℤ pos d → t ≡ v +ℤ u → s ≡ u +ℤ v → a + d ≡ b + c
    balanced a b c d s t u v e f g h = omega (arith, ints)

-- ---- winding numbers, areas, closedness
pub glued_wind : (q : RatPoint) (es ss : List Edge) → wind q es ≡ wind q ss +ℤ wind q (glue_sides es ss)
glued_wind q es ss = same_wind q es (ss ++ glue_sides es ss) (glued_chain es ss) ∙ wind_append q ss (glue_sides es ss)

pub glued_area : (es ss : List Edge) → shoelace es ≡ shoelace ss +ℤ shoelace (glue_sides es ss)
glued_area es ss = same_area es (ss ++ glue_sides es ss) (glued_chain es ss) ∙ shoelace-append ss (glue_sides es ss)

leaving_append : (w : Point) (es fs : List Edge) → leaving w (es ++ fs) ≡ leaving w es + leaving w fs
leaving_append w [] fs = none (leaving w fs)
  where
    none : (n : ℕ) → n ≡ 0 + n
    none n = omega arith
leaving_append w (e ∷ es) fs = more (cond (same_point e.a w) 1 0) (leaving w es) (leaving w fs) (leaving w (es ++ fs)) (leaving_append w es fs)
  where
    more : (a b c d : ℕ) → d ≡ b + c → a + d ≡ (a + b) + c
    more a b c d e = omega arith

arriving_append : (w : Point) (es fs : List Edge) → arriving w (es ++ fs) ≡ arriving w es + arriving w fs
arriving_append w [] fs = none (arriving w fs)
  where
    none : (n : ℕ) → n ≡ 0 + n
    none n = omega arith
arriving_append w (e ∷ es) fs = more (cond (same_point e.b w) 1 0) (arriving w es) (arriving w fs) (arriving w (es ++ fs)) (arriving_append w es fs)
  where
    more : (a b c d : ℕ) → d ≡ b + c → a + d ≡ (a + b) + c
    more a b c d e = omega arith

closed_rest : (es fs : List Edge) → IsClosed (es ++ fs) → IsClosed es → IsClosed fs
closed_rest es fs h i = record { balanced = λ w. rest (leaving w es) (arriving w es) (leaving w fs) (arriving w fs) (leaving w (es ++ fs)) (arriving w (es ++ fs)) (leaving_append w es fs) (arriving_append w es fs) (h.balanced w) (i.balanced w) }
  where
    rest : (a b c d l r : ℕ) → l ≡ a + c → r ≡ b + d → l ≡ r → a ≡ b → c ≡ d
    rest a b c d l r e f g h = omega arith

pub glued_closed : (es : List Edge) (corners : List Point) → IsClosed es → IsClosed (glue es corners)
glued_closed es corners h = closed_rest (sides corners) (glue es corners) (same_closed es (sides corners ++ glue es corners) (glued_chain es (sides corners)) h) (sides_closed corners)

-- ---- the area falls
-- with the way back from u to o
fan_area : (o u : Point) (ws : List Point) → IsFan o u ws → pos 0 ≤ℤ (sweep_of (edge o u) +ℤ shoelace (way_round o u ws))
fan_area o u [] f = level (area_back o u)
  where
    level : {z : ℤ} → z ≡ pos 0 → pos 0 ≤ℤ z
    level {z} e = omega (arith, ints)
fan_area o u (w ∷ ws) f = more (sweep_of (edge o u)) (sweep_of (edge u w)) (shoelace (way_round o w ws)) (orient o u w) (sweep_of (edge o w)) (spread o u w) f.0 (fan_area o w ws f.1)
  where
    more : (a b c d e : ℤ) → a +ℤ b ≡ d +ℤ e → pos 0 <ℤ d → pos 0 ≤ℤ (e +ℤ c) → pos 0 ≤ℤ (a +ℤ (b +ℤ c))
    more a b c d e h i j = omega (arith, ints)

    spread : (o u w : Point) → sweep_of (edge o u) +ℤ sweep_of (edge u w) ≡ orient o u w +ℤ sweep_of (edge o w)
    spread o u w = ring (o.x ∷ o.y ∷ u.x ∷ u.y ∷ w.x ∷ w.y ∷ [])
        ((var 0 ⊗ var 3 ⊖ var 1 ⊗ var 2) ⊕ (var 2 ⊗ var 5 ⊖ var 3 ⊗ var 4))
        (((var 2 ⊖ var 0) ⊗ (var 5 ⊖ var 1) ⊖ (var 3 ⊖ var 1) ⊗ (var 4 ⊖ var 0)) ⊕ (var 0 ⊗ var 5 ⊖ var 1 ⊗ var 4)) refl

pub convex_area : (cs : List Point) → IsStrictlyConvex cs → pos 0 <ℤ shoelace (sides cs)
convex_area cs v = by_corners cs v (λ o u w ws f e. subst (λ (l : List Point). pos 0 <ℤ shoelace (sides l)) (sym e) (strictly o u w ws f.fan))
  where
    strictly : (o u w : Point) (ws : List Point) → IsFan o u (w ∷ ws) → pos 0 <ℤ shoelace (sides (o ∷ u ∷ w ∷ ws))
    strictly o u w ws f = more (sweep_of (edge o u)) (sweep_of (edge u w)) (shoelace (way_round o w ws)) (orient o u w) (sweep_of (edge o w)) (spread o u w) f.0 (fan_area o w ws f.1)
      where
        more : (a b c d e : ℤ) → a +ℤ b ≡ d +ℤ e → pos 0 <ℤ d → pos 0 ≤ℤ (e +ℤ c) → pos 0 <ℤ (a +ℤ (b +ℤ c))
        more a b c d e h i j = omega (arith, ints)

        spread : (o u w : Point) → sweep_of (edge o u) +ℤ sweep_of (edge u w) ≡ orient o u w +ℤ sweep_of (edge o w)
        spread o u w = ring (o.x ∷ o.y ∷ u.x ∷ u.y ∷ w.x ∷ w.y ∷ [])
            ((var 0 ⊗ var 3 ⊖ var 1 ⊗ var 2) ⊕ (var 2 ⊗ var 5 ⊖ var 3 ⊗ var 4))
            (((var 2 ⊖ var 0) ⊗ (var 5 ⊖ var 1) ⊖ (var 3 ⊖ var 1) ⊗ (var 4 ⊖ var 0)) ⊕ (var 0 ⊗ var 5 ⊖ var 1 ⊗ var 4)) refl

pub glued_falls : (es : List Edge) (corners : List Point) → IsStrictlyConvex corners → shoelace (glue es corners) <ℤ shoelace es
glued_falls es corners v = less (shoelace es) (shoelace (sides corners)) (shoelace (glue es corners)) (glued_area es (sides corners)) (convex_area corners v)
  where
    less : (a b c : ℤ) → a ≡ b +ℤ c → pos 0 <ℤ b → c <ℤ a
    less a b c e h = omega (arith, ints)

-- ---- lists with the same net numbers
pub chain_of : (es fs : List Edge) → ((x : Edge) → net x es ≡ net x fs) → IsSameChain es fs
chain_of es fs h = record { balanced = λ x. balanced (times x es) (times (back x) es) (times x fs) (times (back x) fs) (h x) }
  where
    balanced : (a b c d : ℕ) → pos a -ℤ pos b ≡ pos c -ℤ pos d → a + d ≡ b + c
    balanced a b c d e = omega (arith, ints)
