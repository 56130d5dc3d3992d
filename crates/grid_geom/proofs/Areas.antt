-- Doubled areas by the shoelace rule: lists one after another, and the triangle. Stands on Ring.
use lib.IntN.{ℤ, pos, ◌+ℤ◌}
use mathlib.Core.List.{List, [], ◌∷◌, ◌++◌}
use mathlib.Core.Path.{◌≡◌, refl, sym, ap, ◌∙◌}
use native.Mathlib.Omega.{arith}
use Rattle.std.proofs.lemmas.Int.{ints}
use Rattle.grid_geom.specs.declared.Point.{Point}
use Rattle.grid_geom.specs.declared.Edge.{Edge}
use Rattle.grid_geom.specs.Plane.{orient}
use Rattle.grid_geom.specs.Polygon.{sides}
use Rattle.grid_geom.specs.Area.{sweep_of, shoelace}
use Rattle.grid_geom.proofs.Ints.{add_assoc}
use Rattle.grid_geom.proofs.Ring.{var, num, ◌⊕◌, ◌⊖◌, ◌⊗◌, ring}

pub shoelace-append : (es fs : List Edge) → shoelace (es ++ fs) ≡ shoelace es +ℤ shoelace fs
shoelace-append [] fs = omega (arith, ints)
shoelace-append (e ∷ es) fs = ap (λ (z : ℤ). sweep_of e +ℤ z) (shoelace-append es fs) ∙ sym (add_assoc (sweep_of e) (shoelace es) (shoelace fs))

-- a triangle's doubled area is its orientation
pub triangle_area : (a b c : Point) → shoelace (sides (a ∷ (b ∷ (c ∷ [])))) ≡ orient a b c
triangle_area a b c = ring (a.x ∷ a.y ∷ b.x ∷ b.y ∷ c.x ∷ c.y ∷ [])
    ((var 0 ⊗ var 3 ⊖ var 1 ⊗ var 2) ⊕ ((var 2 ⊗ var 5 ⊖ var 3 ⊗ var 4) ⊕ ((var 4 ⊗ var 1 ⊖ var 5 ⊗ var 0) ⊕ num (pos 0)))) ((var 2 ⊖ var 0) ⊗ (var 5 ⊖ var 1) ⊖ (var 3 ⊖ var 1) ⊗ (var 4 ⊖ var 0)) refl
