-- The rows of a file moved to the grid.
--
-- IsReadable    numbers within a reader's ranges, and segments that name points of the file
-- points_of     the points, in the order of their rows
-- row_of        the number of the row of a point, from 1
-- segments_of   the segments, with their ends by rows
use Rattle.std.specs.Prelude.{◌≡◌, ℕ, ◌+◌, ◌<◌, ◌≤◌, ◌==◌, ◌^◌, List, [], ◌∷◌, length, map, All, Option, Some, None, IsSome, IfSome, unwrap_or, ℤ, pos, negsuc, ◌≤ℤ◌, unsigned_abs}
use Rattle.std.specs.List.{position_from}
use Rattle.word_scan.specs.declared.decimals.Dec.{Dec}
use Rattle.grid_geom.specs.declared.Point.{Point}
use Rattle.in2d_reader.specs.declared.geometry.PointRow.{PointRow}
use Rattle.in2d_reader.specs.declared.geometry.SegmentRow.{SegmentRow}
use Rattle.in2d_reader.specs.declared.geometry.MaterialRow.{MaterialRow}
use Rattle.in2d_reader.specs.declared.geometry.RawGeometry.{RawGeometry}
use Rattle.geom_check.specs.declared.kinds.Segment.{Segment}
use Rattle.geom_check.specs.declared.placing.Placed.{Placed}
use Rattle.geom_check.specs.Boundary.{IsBoundaryNumber}
use Rattle.geom_check.specs.Shift.{grid_at, size_at, FitsRow, IsShift}
use Rattle.geom_check.specs.declared.limits.TheConstants.{MOST_ROWS, MOST_DOMAINS, COARSEST}

-- below 10 ^ 30 in absolute value, with a scale from -99 to 99
pub record IsReadableNumber (v : Dec) : Type 0 where
  pub digits : unsigned_abs v.digits < 10 ^ 30
  pub scale_least : negsuc 98 ≤ℤ v.scale
  pub scale_greatest : v.scale ≤ℤ pos 99

-- a number that may be absent
abbrev pub IsReadableIfAny : Option Dec → Type 0
IsReadableIfAny None = Unit {0}
IsReadableIfAny (Some v) = IsReadableNumber v

pub record IsReadablePoint (row : PointRow) : Type 0 where
  pub x : IsReadableNumber row.x
  pub y : IsReadableNumber row.y
  pub maxh : IsReadableIfAny row.maxh

-- the number, from 1, of the first row of a point number
abbrev pub row_in : List PointRow → ℕ → Option ℕ
row_in rows number = position_from (λ row. row.number == number) 1 rows

-- both ends are points of the file, a boundary number that is given is one, and the domains are at most 64
pub record IsReadableSegment (points : List PointRow) (row : SegmentRow) : Type 0 where
  pub p_known : IsSome (row_in points row.p)
  pub q_known : IsSome (row_in points row.q)
  pub bc : IfSome row.bc IsBoundaryNumber
  pub maxh : IsReadableIfAny row.maxh
  pub left : row.left ≤ MOST_DOMAINS
  pub right : row.right ≤ MOST_DOMAINS

abbrev pub IsReadableMaterial : MaterialRow → Type 0
IsReadableMaterial row = IsReadableIfAny row.maxh

-- numbers within a reader's ranges, and segments that name points of the file
pub record IsReadable (raw : RawGeometry) : Type 0 where
  pub few_points : length raw.points ≤ MOST_ROWS
  pub few_segments : length raw.segments ≤ MOST_ROWS
  pub points : All IsReadablePoint raw.points
  pub segments : All (IsReadableSegment raw.points) raw.segments
  pub materials : All IsReadableMaterial raw.materials

-- a point of the file on the grid
abbrev pub place_of : ℤ → PointRow → Point
place_of shift row = record { x = grid_at shift row.x; y = grid_at shift row.y }

-- the points of the file on the grid, in the order of their rows
abbrev pub points_of : ℤ → List PointRow → List Point
points_of shift rows = map (place_of shift) rows

-- the number of the row of a point of the file
abbrev pub row_of : List PointRow → ℕ → ℕ
row_of rows number = unwrap_or (row_in rows number) 0

-- a segment with its ends by rows; its boundary number is its own number where none is given
abbrev pub segment_of : ℤ → List PointRow → ℕ → SegmentRow → Segment
segment_of shift points number row = record {
  left = row.left;
  right = row.right;
  p = row_of points row.p;
  q = row_of points row.q;
  bc = unwrap_or row.bc number;
  maxh = size_at shift row.maxh;
}

-- the segments from this number on
abbrev pub segments_from : ℤ → List PointRow → ℕ → List SegmentRow → List Segment
segments_from shift points number [] = []
segments_from shift points number (row ∷ rows) =
    segment_of shift points number row ∷ segments_from shift points (number + 1) rows

-- the segments of the file, in the order of their rows
abbrev pub segments_of : ℤ → RawGeometry → List Segment
segments_of shift raw = segments_from shift raw.points 1 raw.segments

-- everything on the grid, at the finest shift
pub record IsPlaced (raw : RawGeometry) (placed : Placed) : Type 0 where
  pub coarsest : All (FitsRow COARSEST) raw.points
  pub shift : IsShift placed.shift raw.points
  pub points : placed.points ≡ points_of placed.shift raw.points
  pub segments : placed.segments ≡ segments_of placed.shift raw
