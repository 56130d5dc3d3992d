-- Twice the signed area that a list of edges goes round, by the shoelace rule.
use lib.IntN.{ℤ, pos, ◌+ℤ◌, ◌-ℤ◌, ◌*ℤ◌}
use mathlib.Core.List.{List, [], ◌∷◌}
use Rattle.grid_geom.specs.declared.Edge.{Edge}

-- twice the signed area of the triangle of an edge and the origin
abbrev pub sweep_of : Edge → ℤ
sweep_of e = e.a.x *ℤ e.b.y -ℤ e.a.y *ℤ e.b.x

-- the sum over the list
abbrev pub shoelace : List Edge → ℤ
shoelace [] = pos 0
shoelace (e ∷ es) = sweep_of e +ℤ shoelace es
