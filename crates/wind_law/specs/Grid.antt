-- Edges between grid points, and lists of them.
use Rattle.std.specs.List.{All}
use mathlib.Core.List.{List}
use Rattle.grid_geom.specs.declared.Edge.{Edge}
use Rattle.grid_geom.specs.Bounds.{IsOnGrid}

-- both ends of the edge are grid points
pub record IsEdgeOnGrid (e : Edge) : Type 0 where
  pub a : IsOnGrid e.a
  pub b : IsOnGrid e.b

-- both ends of each edge are
abbrev pub AreOnGrid : List Edge → Type 0
AreOnGrid es = All IsEdgeOnGrid es
