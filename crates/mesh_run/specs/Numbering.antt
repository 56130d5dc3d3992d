-- Points numbered from 1 by first occurrence.
use Rattle.std.specs.Prelude.{ℕ, ◌+◌, Bool, List, [], ◌∷◌, ◌++◌, fold, if◌then◌else◌}
use Rattle.std.specs.List.{flat_map, list_any, position_or_len}
use Rattle.grid_geom.specs.declared.Point.{Point}
use Rattle.grid_geom.specs.declared.Edge.{Edge}
use Rattle.grid_geom.specs.Closed.{same_point}

-- whether the point is one of the list
abbrev pub is_among : List Point → Point → Bool
is_among ps p = list_any (same_point p) ps

-- the list, with the point at its end unless it is there
abbrev pub with_point : List Point → Point → List Point
with_point ps p = if is_among ps p then ps else ps ++ p ∷ []

-- each point once, by first occurrence
abbrev pub by_first_occurrence : List Point → List Point
by_first_occurrence ps = fold with_point [] ps

-- the ends of edges, start before end
abbrev pub ends_of : List Edge → List Point
ends_of edges = flat_map (λ e. e.a ∷ e.b ∷ []) edges

-- the number of the point in a list of different points: its place, counted from 1
abbrev pub number_in : List Point → Point → ℕ
number_in ps p = position_or_len (same_point p) ps + 1
