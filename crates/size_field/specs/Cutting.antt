-- How segments are cut into pieces.
--
-- middle_of      the point in the middle between two, where it is a grid point
-- cut_at         where a piece is cut: in its middle, where it is longer than its bound
-- parts          the pieces of a segment that may be halved so often, from its first point to its last
-- field_before   the sizes of a domain before cutting
-- bound          how long a piece of a segment may be whose middle is this point
-- pieces_of      the pieces of a geometry
-- IsMiddle       what the middle between two points is
use Rattle.std.specs.Prelude.{◌≡◌, ℕ, zero, suc, ◌+◌, ◌==◌, min, nat_lt, if◌then◌else◌, Option, Some, None, List, [], ◌∷◌, ◌++◌, map, slice_index_or, ℤ, pos, ◌+ℤ◌, ◌*ℤ◌}
use Rattle.std.specs.Int.{int_div_euclid}
use Rattle.std.specs.Ordering.{int_eq}
use Rattle.grid_geom.specs.declared.Point.{Point}
use Rattle.grid_geom.specs.declared.Edge.{Edge}
use Rattle.grid_geom.specs.declared.TheConstants.{LONGEST}
use Rattle.geom_check.specs.declared.kinds.Segment.{Segment}
use Rattle.geom_check.specs.declared.kinds.Domain.{Domain}
use Rattle.geom_check.specs.Geometry.{PlanarMap}
use Rattle.geom_check.specs.Boundary.{point_at}
use Rattle.size_field.specs.declared.pieces.Piece.{Piece}
use Rattle.size_field.specs.declared.cutting.TheConstants.{MOST_HALVINGS}
use Rattle.size_field.specs.Size.{SizeField, reach, least_size, size_at}

-- half a whole number, rounded down
abbrev pub half : ℤ → ℤ
half z = int_div_euclid z (pos 2)

-- half the sum of two coordinates, where it is whole
abbrev pub half_sum : ℤ → ℤ → Option ℤ
half_sum u w = if int_eq (pos 2 *ℤ half (u +ℤ w)) (u +ℤ w) then Some (half (u +ℤ w)) else None

-- the point of two coordinates, where there are both
abbrev pub point_of : Option ℤ → Option ℤ → Option Point
point_of (Some x) (Some y) = Some (record { x = x; y = y })
point_of _ _ = None

-- the point in the middle between two, where it is a grid point
abbrev pub middle_of : Point → Point → Option Point
middle_of a b = point_of (half_sum a.x b.x) (half_sum a.y b.y)

-- the middle of a piece of this length, where there is one and the piece is longer than its bound
abbrev pub where_longer : (Point → ℕ) → ℕ → Option Point → Option Point
where_longer bound length None = None
where_longer bound length (Some m) = if nat_lt (bound m) length then Some m else None

-- where the piece from a to b is cut: in its middle, where that is a grid point, and the piece's longer extent is greater
-- than its bound
abbrev pub cut_at : (Point → ℕ) → Point → Point → Option Point
cut_at bound a b = where_longer bound (reach a b) (middle_of a b)

-- where it is cut if it may be halved n times more
abbrev pub next_cut : (Point → ℕ) → ℕ → Point → Point → Option Point
next_cut bound zero a b = None
next_cut bound (suc n) a b = cut_at bound a b

-- the pieces on both sides of a cut, or the whole piece
abbrev pub on_both_sides : (Point → Point → List Edge) → Point → Point → Option Point → List Edge
on_both_sides pieces a b None = record { a = a; b = b } ∷ []
on_both_sides pieces a b (Some m) = pieces a m ++ pieces m b

-- the pieces from a to b, where each may be halved n times more
unfoldable pub parts : (Point → ℕ) → ℕ → Point → Point → List Edge
parts bound zero a b = record { a = a; b = b } ∷ []
parts bound (suc n) a b = on_both_sides (parts bound n) a b (cut_at bound a b)

-- the least of a length and of what the sources of a field leave
abbrev pub bound_by : SizeField → ℕ → Point → ℕ
bound_by field most m = least_size field.grading m most field.sources

-- the greatest size that a domain has, if it has one
abbrev pub size_of_domain : List Domain → ℕ → Option ℕ
size_of_domain [] domain = None
size_of_domain (d ∷ ds) domain = if d.number == domain then d.maxh else size_of_domain ds domain

-- the lesser of a number and another one, where there is one
abbrev pub at_most : ℕ → Option ℕ → ℕ
at_most n None = n
at_most n (Some m) = min n m

-- the greatest size of a domain: its own one, or the given one, if that is less
abbrev pub greatest_in : List Domain → ℕ → ℕ → ℕ
greatest_in domains greatest domain = at_most greatest (size_of_domain domains domain)

-- the sizes of a domain before cutting: the sources are those of the file's points
abbrev pub field_before : PlanarMap → ℕ → ℕ → ℕ → SizeField
field_before g greatest grading domain =
    record {
      greatest = greatest_in g.domains greatest domain;
      grading = grading;
      sources = g.flagged;
    }

-- how long a piece may be whose middle is m and on whose side this domain lies; the outside, 0, allows any length
abbrev pub side_bound : PlanarMap → ℕ → ℕ → ℕ → Point → ℕ
side_bound g greatest grading domain m = if domain == 0 then LONGEST
    else size_at (field_before g greatest grading domain) m

-- how long a piece of a segment may be whose middle is m: the least of the segment's own greatest length, where it has one,
-- and of the sizes there of the domains on its two sides
abbrev pub bound : PlanarMap → ℕ → ℕ → Segment → Point → ℕ
bound g greatest grading s m = at_most
    (min (side_bound g greatest grading s.left m) (side_bound g greatest grading s.right m)) s.maxh

-- the pieces of a segment
abbrev pub parts_of : PlanarMap → ℕ → ℕ → Segment → List Edge
parts_of g greatest grading s =
    parts (bound g greatest grading s) MOST_HALVINGS (point_at g.points s.p) (point_at g.points s.q)

-- the segment at a position
abbrev pub segment_at : PlanarMap → ℕ → Segment
segment_at g index = slice_index_or g.segments index
    (record { left = 0; right = 0; p = 0; q = 0; bc = 0; maxh = None })

-- without regard to sources: how long a piece may be on whose side a domain lies, and how long the pieces of a segment
abbrev pub side_most : List Domain → ℕ → ℕ → ℕ
side_most domains greatest domain = if domain == 0 then LONGEST
    else greatest_in domains greatest domain

abbrev pub most_of : List Domain → ℕ → Segment → ℕ
most_of domains greatest s = at_most
    (min (side_most domains greatest s.left) (side_most domains greatest s.right)) s.maxh

-- an edge as a piece of segment n
abbrev pub piece_of : ℕ → Edge → Piece
piece_of n e = record { segment = n; a = e.a; b = e.b }

-- the pieces of segments, of which the first has the number n
abbrev pub pieces_from : (Segment → List Edge) → ℕ → List Segment → List Piece
pieces_from cut n [] = []
pieces_from cut n (s ∷ ss) = map (piece_of n) (cut s) ++ pieces_from cut (n + 1) ss

-- the pieces of a geometry, segment by segment
abbrev pub pieces_of : PlanarMap → ℕ → ℕ → List Piece
pieces_of g greatest grading = pieces_from (parts_of g greatest grading) 1 g.segments

-- m is in the middle between a and b
pub record IsMiddle (m a b : Point) : Type 0 where
  pub x : pos 2 *ℤ m.x ≡ a.x +ℤ b.x
  pub y : pos 2 *ℤ m.y ≡ a.y +ℤ b.y
