-- Edges with their boxes, for telling apart those that are far from each other.
--
-- box_of     the box of an edge
-- IsSpan     an edge with its box, and where it begins
-- IsFreeOf   an edge tangles with none of those that come after it, up to a place
use Rattle.std.specs.Prelude.{◌≡◌, ℕ, ◌<◌, List, slice_index_or, pos, ◌+ℤ◌}
use Rattle.std.specs.Int.{int_max, int_min}
use Rattle.grid_geom.specs.declared.Edge.{Edge}
use Rattle.grid_geom.specs.declared.Bounds.{Bounds}
use Rattle.grid_geom.specs.declared.TheConstants.{GRID}
use Rattle.wind_law.specs.Grid.{IsEdgeOnGrid}
use Rattle.geom_check.specs.declared.spans.Span.{Span}
use Rattle.geom_check.specs.Accepted.{DoEdgesTangle}

-- the box of an edge
abbrev pub box_of : Edge → Bounds
box_of e = record {
  lo = record { x = int_min e.a.x e.b.x; y = int_min e.a.y e.b.y };
  hi = record { x = int_max e.a.x e.b.x; y = int_max e.a.y e.b.y };
}

-- an edge with its box, and how far that begins from the left end of the grid
pub record IsSpan (s : Span) : Type 0 where
  pub on_grid : IsEdgeOnGrid s.edge
  pub box : s.bounds ≡ box_of s.edge
  pub left : pos s.left ≡ s.bounds.lo.x +ℤ GRID

-- the edge at place i tangles with none of those at later places before `end`
abbrev pub IsFreeOf : List Span → ℕ → ℕ → Type 0
IsFreeOf spans i end = (j : ℕ) (d : Span) → i < j → j < end →
    ¬ (DoEdgesTangle (slice_index_or spans i d).edge (slice_index_or spans j d).edge)
