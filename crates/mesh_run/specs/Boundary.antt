-- The pieces of a geometry of which no segment is cut; and what is said of pieces and boundaries, given on.
pub use Rattle.size_field.specs.Boundary.{IsNumberTo, IsPieceOf, segment_of, piece_edge, IsPieceOnGrid, turned_to, piece_boundary}
use Rattle.std.specs.Prelude.{ℕ, ◌+◌, List, [], ◌∷◌}
use Rattle.grid_geom.specs.declared.Point.{Point}
use Rattle.geom_check.specs.declared.kinds.Segment.{Segment}
use Rattle.geom_check.specs.Boundary.{point_at}
use Rattle.size_field.specs.declared.pieces.Piece.{Piece}

-- segments as pieces, where the first has the number n
abbrev pub whole_pieces_from : ℕ → List Point → List Segment → List Piece
whole_pieces_from n points [] = []
whole_pieces_from n points (s ∷ ss) =
    record { segment = n; a = point_at points s.p; b = point_at points s.q }
    ∷ whole_pieces_from (n + 1) points ss

-- one piece for each segment, in order, from its first point to its last
abbrev pub whole_pieces : List Point → List Segment → List Piece
whole_pieces points segments = whole_pieces_from 1 points segments
