-- What was moved to the grid is on it, and joined as the file says.
use Rattle.std.proofs.Common.{◌≡◌, ℕ, suc, ◌+◌, ◌*◌, ◌<◌, ◌≤◌, ◌==◌, Bool, true, false, cond, List, [], ◌∷◌, length, All, Option, Some, IsSome, unwrap_or, sym, ap, subst, refl, arith}
use lib.IntN.{ℤ, pos, negsuc}
use Rattle.std.proofs.lemmas.Int.{ints}
use Rattle.std.specs.List.{position_from}
use Rattle.std.proofs.lemmas.List.{length-map}
use Rattle.std.proofs.lemmas.List.Elements.{All-map, All-nil, All-cons, All-head, All-tail}
use Rattle.grid_geom.specs.declared.Point.{Point}
use Rattle.grid_geom.specs.Bounds.{IsWithin, IsOnGrid}
use Rattle.grid_geom.specs.declared.TheConstants.{GRID}
use Rattle.in2d_reader.specs.declared.geometry.PointRow.{PointRow}
use Rattle.in2d_reader.specs.declared.geometry.SegmentRow.{SegmentRow}
use Rattle.in2d_reader.specs.declared.geometry.RawGeometry.{RawGeometry}
use Rattle.geom_check.specs.declared.kinds.Segment.{Segment}
use Rattle.geom_check.specs.declared.placing.Placed.{Placed}
use Rattle.geom_check.specs.Shift.{magnitude_at, signed_as, FitsRow}
use Rattle.geom_check.specs.Boundary.{IsSegmentOf}
use Rattle.geom_check.specs.Placed.{IsReadable, IsReadableSegment, IsPlaced, place_of, points_of, segment_of, segments_from, segments_of}
use Rattle.geom_check.specs.declared.limits.TheConstants.{MOST_ROWS, MOST_UNITS}

-- a magnitude of at most 2 ^ 14 units is at most the grid's in grid steps
signed_within : (z : ℤ) (m : ℕ) → m ≤ MOST_UNITS → IsWithin GRID (signed_as z (64 * m))
signed_within (pos n) m h = record { least = omega (arith, ints); greatest = omega (arith, ints) }
signed_within (negsuc n) m h = record { least = omega (arith, ints); greatest = omega (arith, ints) }

pub place_on_grid : (shift : ℤ) (row : PointRow) → FitsRow shift row → IsOnGrid (place_of shift row)
place_on_grid shift row fits = record { x_within = signed_within row.x.digits (magnitude_at shift row.x) fits.x; y_within = signed_within row.y.digits (magnitude_at shift row.y) fits.y }

places_on_grid : (shift : ℤ) (rows : List PointRow) → All (FitsRow shift) rows → All IsOnGrid (points_of shift rows)
places_on_grid shift rows fits = All-map IsOnGrid (place_of shift) rows (λ k d inside. place_on_grid shift _ (fits k d inside))

-- the number of a row is within the list
record IsNumberIn (first count n : ℕ) : Type 0 where
  least : first ≤ n
  most : n < first + count

number_here : (b : Bool) (later : Option ℕ) (first count : ℕ) → (IsSome later → IsNumberIn (first + 1) count (unwrap_or later 0)) → IsSome (cond b (Some first) later) → IsNumberIn first (suc count) (unwrap_or (cond b (Some first) later) 0)
number_here true later first count h j = record { least = omega arith; most = omega arith }
number_here false later first count h j = let k = h j in record { least = omega (arith, k.least); most = omega (arith, k.most) }

number_in : {A : Type 0} (test : A → Bool) (items : List A) (first : ℕ) → IsSome (position_from test first items) → IsNumberIn first (length items) (unwrap_or (position_from test first items) 0)
number_in test [] first h = cc
number_in test (x ∷ xs) first h = number_here (test x) (position_from test (first + 1) xs) first (length xs) (number_in test xs (first + 1)) h

joined_row : (shift : ℤ) (points : List PointRow) (number : ℕ) (row : SegmentRow) → IsReadableSegment points row → IsSegmentOf (length points) (segment_of shift points number row)
joined_row shift points number row h =
    let p = number_in (λ (r : PointRow). r.number == row.p) points 1 h.p_known in
    let q = number_in (λ (r : PointRow). r.number == row.q) points 1 h.q_known in
    record { p_least = p.least; p_greatest = omega (arith, p.most); q_least = q.least; q_greatest = omega (arith, q.most); left = h.left; right = h.right }

joined_rows : (shift : ℤ) (points : List PointRow) (number : ℕ) (rows : List SegmentRow) → All (IsReadableSegment points) rows → All (IsSegmentOf (length points)) (segments_from shift points number rows)
joined_rows shift points number [] h = All-nil _
joined_rows shift points number (row ∷ rows) h =
    All-cons (IsSegmentOf (length points)) (segment_of shift points number row) (segments_from shift points (number + 1) rows)
    (joined_row shift points number row (All-head (IsReadableSegment points) row rows h)) (joined_rows shift points (number + 1) rows (All-tail (IsReadableSegment points) row rows h))

as_many_segments : (shift : ℤ) (points : List PointRow) (number : ℕ) (rows : List SegmentRow) → length (segments_from shift points number rows) ≡ length rows
as_many_segments shift points number [] = refl
as_many_segments shift points number (row ∷ rows) = ap suc (as_many_segments shift points (number + 1) rows)

pub as_many_points : (shift : ℤ) (rows : List PointRow) → length (points_of shift rows) ≡ length rows
as_many_points shift rows = length-map rows (place_of shift)

-- a file's points and segments on the grid
pub record IsJoined (points : List Point) (segments : List Segment) : Type 0 where
  pub on_grid : All IsOnGrid points
  pub joined : All (IsSegmentOf (length points)) segments
  pub few_points : length points ≤ MOST_ROWS
  pub few_segments : length segments ≤ MOST_ROWS

joined_at : (raw : RawGeometry) (shift : ℤ) → IsReadable raw → All (FitsRow shift) raw.points → IsJoined (points_of shift raw.points) (segments_of shift raw)
joined_at raw shift h fits = record {
  on_grid = places_on_grid shift raw.points fits;
  joined = subst (λ (n : ℕ). All (IsSegmentOf n) (segments_of shift raw)) (sym (as_many_points shift raw.points)) (joined_rows shift raw.points 1 raw.segments h.segments);
  few_points = omega (arith, as_many_points shift raw.points, h.few_points);
  few_segments = omega (arith, as_many_segments shift raw.points 1 raw.segments, h.few_segments);
}

pub placed_joined : (raw : RawGeometry) (placed : Placed) → IsReadable raw → IsPlaced raw placed → IsJoined placed.points placed.segments
placed_joined raw placed h is =
    subst (λ (points : List Point). IsJoined points placed.segments) (sym is.points) (subst (λ (segments : List Segment). IsJoined (points_of placed.shift raw.points) segments) (sym is.segments) (joined_at raw placed.shift h is.shift.fits))
