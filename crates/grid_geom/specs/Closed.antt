-- Edges, closed lists of edges, and points that lie on no edge of a list.
use Prim.Native.Nat.{ℕ, ◌+◌}
use mathlib.Core.Path.{◌≡◌}
use mathlib.Core.Bool.{Bool, cond}
use mathlib.Core.List.{List, [], ◌∷◌}
use Rattle.std.specs.Ordering.{int_eq}
use Rattle.std.specs.List.{AllByRecursion}
use Rattle.grid_geom.specs.declared.Point.{Point}
use Rattle.grid_geom.specs.declared.RatPoint.{RatPoint}
use Rattle.grid_geom.specs.Sides.{IsOnClosed}
use Rattle.grid_geom.specs.declared.Edge.{Edge}
use Rattle.grid_geom.specs.Winding.{and}

abbrev pub same_point : Point → Point → Bool
same_point u w = and (int_eq u.x w.x) (int_eq u.y w.y)

abbrev pub leaving : Point → List Edge → ℕ
leaving w [] = 0
leaving w (e ∷ es) = cond (same_point e.a w) 1 0 + leaving w es

abbrev pub arriving : Point → List Edge → ℕ
arriving w [] = 0
arriving w (e ∷ es) = cond (same_point e.b w) 1 0 + arriving w es

pub record IsClosed (es : List Edge) : Type 0 where
  pub balanced : (w : Point) → leaving w es ≡ arriving w es

-- an edge joins two different points
abbrev pub IsEdge : Edge → Type 0
IsEdge e = ¬ (e.a ≡ e.b)

-- q lies on no closed edge of the list
abbrev pub IsOff : RatPoint → List Edge → Type 0
IsOff q es = AllByRecursion (λ e. ¬ (IsOnClosed q e.a e.b)) es
