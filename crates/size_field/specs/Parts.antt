-- What holds of pieces as edges.
use Rattle.std.specs.Prelude.{◌≡◌, ◌⊎◌, ℕ, List}
use Rattle.std.specs.List.{AllByRecursion}
use Rattle.grid_geom.specs.declared.Edge.{Edge}
use Rattle.grid_geom.specs.Closed.{IsEdge}
use Rattle.geom_check.specs.Boundary.{IsEdgeOnGrid}
use Rattle.wind_law.specs.Chains.{back}
use Rattle.size_field.specs.declared.pieces.Piece.{Piece}
use Rattle.size_field.specs.Boundary.{IsNumberTo, piece_edge}
use Rattle.state_law.specs.Free.{AreFreeOf, DoEdgesTangle}

-- an edge of the grid, with two different ends
pub record IsPart (e : Edge) : Type 0 where
  pub on_grid : IsEdgeOnGrid e
  pub two_ends : IsEdge e

-- a piece of one of so many segments, on the grid, with two different ends
pub record IsPiece (count : ℕ) (p : Piece) : Type 0 where
  pub of_segment : IsNumberTo count p.segment
  pub part : IsPart (piece_edge p)

-- edges with two different ends, no two of which tangle
pub record AreUntangled (es : List Edge) : Type 0 where
  pub edges : AllByRecursion IsEdge es
  pub free : AreFreeOf DoEdgesTangle es

-- each edge of the one list and each of the other are one, or one is the other reversed, or they don't tangle
abbrev pub AreOneOrApart : List Edge → List Edge → Type 0
AreOneOrApart es fs = AllByRecursion
    (λ e. AllByRecursion (λ f. (f ≡ e) ⊎ ((f ≡ back e) ⊎ ¬ (DoEdgesTangle e f))) fs) es
