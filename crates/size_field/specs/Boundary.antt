-- Pieces of segments, and the boundary of a domain in pieces: edges that have the domain on their left.
--
-- segment_of       the segment that a piece was cut from
-- piece_boundary   the edges round a domain, piece by piece
use Rattle.std.specs.Prelude.{ℕ, ◌-◌, ◌≤◌, ◌==◌, List, [], length, None, slice_index_or}
use Rattle.std.specs.List.{flat_map}
use Rattle.grid_geom.specs.declared.Edge.{Edge}
use Rattle.grid_geom.specs.Bounds.{IsOnGrid}
use Rattle.geom_check.specs.declared.kinds.Segment.{Segment}
use Rattle.geom_check.specs.Boundary.{back, with_edge}
use Rattle.size_field.specs.declared.pieces.Piece.{Piece}

-- a number from 1 to n
pub record IsNumberTo (n k : ℕ) : Type 0 where
  pub first : 1 ≤ k
  pub last : k ≤ n

-- the piece names one of the segments
abbrev pub IsPieceOf : List Segment → Piece → Type 0
IsPieceOf segments p = IsNumberTo (length segments) p.segment

-- the segment that the piece was cut from
abbrev pub segment_of : List Segment → Piece → Segment
segment_of segments p = slice_index_or segments (p.segment - 1)
    (record { left = 0; right = 0; p = 0; q = 0; bc = 0; maxh = None })

-- the piece, from its first point to its last
abbrev pub piece_edge : Piece → Edge
piece_edge p = record { a = p.a; b = p.b }

-- both ends are grid points
pub record IsPieceOnGrid (p : Piece) : Type 0 where
  pub a : IsOnGrid p.a
  pub b : IsOnGrid p.b

-- what an edge of a segment gives to the boundary of a domain: itself where the domain is on the left, and itself reversed where it is on the right
abbrev pub turned_to : ℕ → Segment → Edge → List Edge
turned_to domain s e = with_edge (s.left == domain) e (with_edge (s.right == domain) (back e) [])

-- each piece with the domain on its left as it stands, each with the domain on its right reversed
abbrev pub piece_boundary : ℕ → List Segment → List Piece → List Edge
piece_boundary domain segments pieces =
    flat_map (λ p. turned_to domain (segment_of segments p) (piece_edge p)) pieces
