-- The doubled area of a strictly convex polygon is above 0: the triangles of the fan at its first corner add up to it. Stands on Corners and SameChain.
use lib.IntN.{ℤ, pos, ◌+ℤ◌}
use lib.Signed.{◌<ℤ◌, ◌≤ℤ◌}
use mathlib.Core.Path.{◌≡◌, refl, sym, subst}
use mathlib.Core.List.{List, [], ◌∷◌}
use native.Mathlib.Omega.{arith}
use Rattle.std.proofs.lemmas.Int.{ints}
use Rattle.grid_geom.specs.declared.Point.{Point}
use Rattle.grid_geom.specs.Plane.{orient}
use Rattle.grid_geom.specs.Polygon.{sides, way_round, IsStrictlyConvex}
use Rattle.grid_geom.specs.Area.{sweep_of, shoelace}
use Rattle.grid_geom.proofs.Ring.{var, ◌⊕◌, ◌⊖◌, ◌⊗◌, ring}
use Rattle.grid_geom.proofs.Polygon.{IsFan}
use Rattle.wind_law.specs.Chains.{edge}
use Rattle.wind_law.proofs.Polygons.{by_corners}
use Rattle.wind_law.proofs.SameChain.{area_back}

-- the way by u sweeps the triangle more than the way straight on
spread : (o u w : Point) → sweep_of (edge o u) +ℤ sweep_of (edge u w) ≡ orient o u w +ℤ sweep_of (edge o w)
spread o u w = ring (o.x ∷ o.y ∷ u.x ∷ u.y ∷ w.x ∷ w.y ∷ [])
    ((var 0 ⊗ var 3 ⊖ var 1 ⊗ var 2) ⊕ (var 2 ⊗ var 5 ⊖ var 3 ⊗ var 4))
    (((var 2 ⊖ var 0) ⊗ (var 5 ⊖ var 1) ⊖ (var 3 ⊖ var 1) ⊗ (var 4 ⊖ var 0)) ⊕ (var 0 ⊗ var 5 ⊖ var 1 ⊗ var 4)) refl

-- one triangle of the fan, and the rest of it
grown : (a b c d e : ℤ) → a +ℤ b ≡ d +ℤ e → pos 0 <ℤ d → pos 0 ≤ℤ (e +ℤ c) → pos 0 <ℤ (a +ℤ (b +ℤ c))
grown a b c d e h i j = omega (arith, ints)

-- with the way from the first corner o to u in front
fan_area : (o u : Point) (ws : List Point) → IsFan o u ws → pos 0 ≤ℤ (sweep_of (edge o u) +ℤ shoelace (way_round o u ws))
fan_area o u [] f = level (area_back o u)
  where
    level : {z : ℤ} → z ≡ pos 0 → pos 0 ≤ℤ z
    level {z} e = omega (arith, ints)
fan_area o u (w ∷ ws) f = weak (grown (sweep_of (edge o u)) (sweep_of (edge u w)) (shoelace (way_round o w ws)) (orient o u w) (sweep_of (edge o w)) (spread o u w) f.0 (fan_area o w ws f.1))
  where
    weak : {z : ℤ} → pos 0 <ℤ z → pos 0 ≤ℤ z
    weak {z} h = omega (arith, ints)

pub convex_area : (cs : List Point) → IsStrictlyConvex cs → pos 1 ≤ℤ shoelace (sides cs)
convex_area cs v = by_corners cs v (λ o u w ws f e. subst (λ (l : List Point). pos 1 ≤ℤ shoelace (sides l)) (sym e)
    (least (grown (sweep_of (edge o u)) (sweep_of (edge u w)) (shoelace (way_round o w ws)) (orient o u w) (sweep_of (edge o w)) (spread o u w) f.fan.0 (fan_area o w ws f.fan.1))))
  where
    least : {z : ℤ} → pos 0 <ℤ z → pos 1 ≤ℤ z
    least {z} h = omega (arith, ints)
