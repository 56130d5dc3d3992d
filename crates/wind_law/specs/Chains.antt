-- Lists of edges as chains: how often an edge stands in them, less its reverse.
use Prim.Native.Nat.{ℕ, ◌+◌}
use mathlib.Core.Path.{◌≡◌}
use mathlib.Core.Bool.{Bool, cond}
use mathlib.Core.List.{List, [], ◌∷◌}
use Rattle.grid_geom.specs.declared.Point.{Point}
use Rattle.grid_geom.specs.declared.Edge.{Edge}
use Rattle.grid_geom.specs.Closed.{same_point}
use Rattle.grid_geom.specs.Winding.{and}

-- the edge from a to b, and the reverse of an edge
abbrev pub edge : Point → Point → Edge
edge a b = record { a = a; b = b }

abbrev pub back : Edge → Edge
back e = record { a = e.b; b = e.a }

abbrev pub same_edge : Edge → Edge → Bool
same_edge e f = and (same_point e.a f.a) (same_point e.b f.b)

-- how often the edge f stands in the list
abbrev pub times : Edge → List Edge → ℕ
times f [] = 0
times f (e ∷ es) = cond (same_edge e f) 1 0 + times f es

-- each edge stands as often more than its reverse in one list as in the other
pub record IsSameChain (es fs : List Edge) : Type 0 where
  pub balanced : (x : Edge) → times x es + times (back x) fs ≡ times (back x) es + times x fs
