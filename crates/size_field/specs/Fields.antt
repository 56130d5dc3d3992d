-- The sizes of a domain after cutting.
--
-- piece_sources   both ends of a piece, with its longer extent
-- field_after     the sizes of a domain after cutting
use Rattle.std.specs.Prelude.{ℕ, ◌==◌, ◌||◌, Bool, if◌then◌else◌, List, [], ◌∷◌, ◌++◌}
use Rattle.std.specs.List.{flat_map}
use Rattle.geom_check.specs.declared.kinds.Segment.{Segment}
use Rattle.geom_check.specs.declared.kinds.Source.{Source}
use Rattle.geom_check.specs.Geometry.{PlanarMap}
use Rattle.size_field.specs.declared.pieces.Piece.{Piece}
use Rattle.size_field.specs.Size.{SizeField, reach}
use Rattle.size_field.specs.Boundary.{segment_of}
use Rattle.size_field.specs.Cutting.{greatest_in}

-- both ends of a piece as sources, with the piece's longer extent
abbrev pub piece_sources : Piece → List Source
piece_sources p = record { at = p.a; h = reach p.a p.b } ∷ record { at = p.b; h = reach p.a p.b }
    ∷ []

-- the domain is on a side of the segment
abbrev pub is_beside : ℕ → Segment → Bool
is_beside domain s = (s.left == domain) || (s.right == domain)

-- the sources that a piece gives to a domain: its ends, where it is a part of the domain's boundary
abbrev pub sources_beside : ℕ → List Segment → Piece → List Source
sources_beside domain segments p = if is_beside domain (segment_of segments p) then piece_sources p
    else []

-- the sizes of a domain after cutting: the sources are those of the file's points, and both ends of each piece of its boundary
abbrev pub field_after : PlanarMap → List Piece → ℕ → ℕ → ℕ → SizeField
field_after g pieces domain greatest grading = record {
  greatest = greatest_in g.domains greatest domain;
  grading = grading;
  sources = g.flagged ++ flat_map (sources_beside domain g.segments) pieces;
}
