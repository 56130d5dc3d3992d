-- The generated geometry: n times n unit squares, each a domain of its own.
--
-- in_rows                   a table, row by row
-- point_number              the number of a point
-- square_number             the number of a square
-- above, below, west, east  the squares beside a segment, of which 0 is the outside
-- squares                   the file
-- part_length               the length of a part of a side
use Rattle.std.specs.Prelude.{ℕ, ◌+◌, ◌-◌, ◌*◌, ◌/◌, ◌%◌, ◌==◌, if◌then◌else◌, List, [], ◌++◌, map, None, pos}
use Rattle.std.specs.List.{range_with_len}
use lib.IntN.{ℤ}
use Rattle.geom_check.specs.Shift.{length_at}
use Rattle.word_scan.specs.declared.decimals.Dec.{Dec}
use Rattle.in2d_reader.specs.declared.geometry.PointRow.{PointRow}
use Rattle.in2d_reader.specs.declared.geometry.SegmentRow.{SegmentRow}
use Rattle.in2d_reader.specs.declared.geometry.RawGeometry.{RawGeometry}

-- a table of so many columns and rows, row by row; f i j is the item in column i of row j, from 0
abbrev pub in_rows : {A : Type 0} → (ℕ → ℕ → A) → ℕ → ℕ → List A
in_rows f columns rows = map (λ k. f (k % columns) (k / columns)) (range_with_len 0 (columns * rows))

abbrev pub whole : ℕ → Dec
whole n = record { digits = pos n; scale = pos 0 }

-- the number of the point (i, j): n + 1 points are in a row
abbrev pub point_number : ℕ → ℕ → ℕ → ℕ
point_number n i j = j * (n + 1) + i + 1

-- the number of the square with the lower left corner (i, j): n squares are in a row
abbrev pub square_number : ℕ → ℕ → ℕ → ℕ
square_number n i j = j * n + i + 1

-- the point (i, j)
abbrev pub point_row : ℕ → ℕ → ℕ → PointRow
point_row n i j = record {
  number = point_number n i j;
  x = whole i;
  y = whole j;
  maxh = None;
}

-- the squares above and below the segment from (i, j) to (i + 1, j)
abbrev pub above : ℕ → ℕ → ℕ → ℕ
above n i j = if j == n then 0 else square_number n i j

abbrev pub below : ℕ → ℕ → ℕ → ℕ
below n i j = if j == 0 then 0 else square_number n i (j - 1)

-- the squares to the west and to the east of the segment from (i, j) to (i, j + 1)
abbrev pub west : ℕ → ℕ → ℕ → ℕ
west n i j = if i == 0 then 0 else square_number n (i - 1) j

abbrev pub east : ℕ → ℕ → ℕ → ℕ
east n i j = if i == n then 0 else square_number n i j

-- the segment from (i, j) to (i + 1, j)
abbrev pub across : ℕ → ℕ → ℕ → SegmentRow
across n i j = record {
  left = above n i j;
  right = below n i j;
  p = point_number n i j;
  q = point_number n (i + 1) j;
  bc = None;
  maxh = None;
}

-- the segment from (i, j) to (i, j + 1)
abbrev pub up : ℕ → ℕ → ℕ → SegmentRow
up n i j = record {
  left = west n i j;
  right = east n i j;
  p = point_number n i j;
  q = point_number n i (j + 1);
  bc = None;
  maxh = None;
}

-- the file of n times n unit squares
unfoldable pub squares : ℕ → RawGeometry
squares n = record {
  number = whole 1;
  points = in_rows (point_row n) (n + 1) (n + 1);
  segments = in_rows (across n) n (n + 1) ++ in_rows (up n) (n + 1) n;
  materials = [];
}

-- the length of a part of a side, which has so many: the grid length of 1 divided by their number, rounded downwards
abbrev pub part_length : ℤ → ℕ → ℕ
part_length shift parts = length_at shift (whole 1) / parts
