-- The definitions computed on the worked state: the one element that fits, one that has a corner in a front line, and one that turns the wrong way.
use lib.IntN.{pos}
use lib.Signed.{◌<ℤ◌}
use mathlib.Core.Path.{◌≡◌, refl, ap}
use mathlib.Core.List.{[], ◌∷◌}
use native.Mathlib.Omega.{arith}
use Rattle.std.proofs.lemmas.Int.{ints}
use Rattle.grid_geom.specs.declared.Point.{Point}
use Rattle.grid_geom.specs.Plane.{orient}
use Rattle.grid_geom.specs.Sides.{IsOnOpen}
use Rattle.grid_geom.proofs.Convex.{triangle_convex}
use Rattle.state_law.specs.Gluing.{MayBeGlued}
use Rattle.state_law.specs.State.{corners_of, front_edges, glued}
use Rattle.state_law.specs.Worked.{place, worked}
use Rattle.state_law.proofs.OnePolygon.{polygon_may}

positive : pos 0 <ℤ pos 409600000000
positive = omega (arith, ints)

pub worked_may : MayBeGlued (corners_of worked.points (1 ∷ 2 ∷ 3 ∷ [])) (front_edges worked.points worked.front)
worked_may = polygon_may (place 0 0 ∷ place 640000 0 ∷ place 0 640000 ∷ []) (triangle_convex (place 0 0) (place 640000 0) (place 0 640000) positive)

pub worked_glued : (glued worked (1 ∷ 2 ∷ 3 ∷ [])).front ≡ []
worked_glued = refl

-- gluing by sides alone, where one side leaves and two join
pub worked_joined : (glued worked (1 ∷ 2 ∷ 4 ∷ [])).front ≡ (2, 2, 3) ∷ (3, 3, 1) ∷ (4, 4, 2) ∷ (5, 1, 4) ∷ []
worked_joined = refl

halfway : IsOnOpen (place 320000 320000) (place 640000 0) (place 0 640000)
halfway = record {
  straight = refl;
  right_of_least = omega (arith, ints);
  left_of_greatest = omega (arith, ints);
  above_least = omega (arith, ints);
  below_greatest = omega (arith, ints);
  not_a = λ e. other (ap (λ (p : Point). p.x) e);
  not_b = λ e. more (ap (λ (p : Point). p.x) e);
}
  where
    other : pos 320000 ≡ pos 640000 → ⊥
    other e = omega (arith, ints)

    more : pos 320000 ≡ pos 0 → ⊥
    more e = omega (arith, ints)

pub worked_corner_on_line : ¬ (MayBeGlued (corners_of worked.points (1 ∷ 2 ∷ 4 ∷ [])) (front_edges worked.points worked.front))
worked_corner_on_line may = may.clear.1.0.corners_off_line.1.1.0 halfway

pub worked_turned : ¬ (MayBeGlued (corners_of worked.points (1 ∷ 3 ∷ 2 ∷ [])) (front_edges worked.points worked.front))
worked_turned may = negative (may.turned.left 0 (omega arith) 2 (omega arith) (λ e. omega (arith, e)) (λ e. omega (arith, e)))
  where
    negative : pos 0 <ℤ orient (place 0 0) (place 0 640000) (place 640000 0) → ⊥
    negative h = omega (arith, ints)
