-- The winding number of a point in a list of edges, by the half-open crossing rule.
use lib.IntN.{ℤ, pos, negsuc, ◌+ℤ◌, ◌*ℤ◌}
use lib.Signed.{lt_z, le_z}
use mathlib.Core.Bool.{Bool, true, false, cond}
use mathlib.Core.List.{List, [], ◌∷◌}
use Rattle.grid_geom.specs.declared.RatPoint.{RatPoint}
use Rattle.grid_geom.specs.Plane.{orient_rat}
use Rattle.grid_geom.specs.declared.Edge.{Edge}

abbrev pub and : Bool → Bool → Bool
and true b = b
and false b = false

-- an edge from height u to height w is met at height y, with the point on the side o of it
abbrev pub cross_of : ℤ → ℤ → ℤ → ℤ → ℤ
cross_of u w y o =
    cond (and (le_z u y) (and (lt_z y w) (lt_z (pos 0) o))) (pos 1)
    (cond (and (le_z w y) (and (lt_z y u) (lt_z o (pos 0)))) (negsuc 0) (pos 0))

abbrev pub cross : RatPoint → Edge → ℤ
cross q e = cross_of (e.a.y *ℤ q.k) (e.b.y *ℤ q.k) q.y (orient_rat e.a e.b q)

abbrev pub wind : RatPoint → List Edge → ℤ
wind q [] = pos 0
wind q (e ∷ es) = cross q e +ℤ wind q es
