-- What a geometry keeps of sizes, boundary numbers and domains holds of what was moved to the grid.
use Rattle.std.proofs.Common.{◌≡◌, ℕ, zero, suc, ◌+◌, ◌≤◌, ◌==◌, min, max, Bool, true, false, if◌then◌else◌, List, [], ◌∷◌, length, map, All, Option, Some, None, IfSome, unwrap_or, refl, ap, arith}
use lib.IntN.{ℤ, pos, negsuc}
use Rattle.std.proofs.lemmas.List.Elements.{All-nil, All-cons, All-head, All-tail}
use Rattle.word_scan.specs.declared.decimals.Dec.{Dec}
use Rattle.grid_geom.specs.declared.Point.{Point}
use Rattle.grid_geom.specs.declared.TheConstants.{LONGEST}
use Rattle.grid_geom.specs.Bounds.{IsOnGrid}
use Rattle.in2d_reader.specs.declared.geometry.PointRow.{PointRow}
use Rattle.in2d_reader.specs.declared.geometry.SegmentRow.{SegmentRow}
use Rattle.in2d_reader.specs.declared.geometry.MaterialRow.{MaterialRow}
use Rattle.geom_check.specs.declared.kinds.Source.{Source}
use Rattle.geom_check.specs.declared.kinds.Domain.{Domain}
use Rattle.geom_check.specs.Shift.{length_at, size_of_digits, size_at, FitsRow}
use Rattle.geom_check.specs.Placed.{IsReadableSegment, place_of, segment_of, segments_from}
use Rattle.geom_check.specs.Boundary.{IsBoundaryNumber}
use Rattle.geom_check.specs.Geometry.{IsLength, IsLengthIfAny, IsSource, with_source, sources_of, size_from, domain_at}
use Rattle.geom_check.proofs.PlacedGrid.{place_on_grid}
use Rattle.geom_check.specs.declared.limits.TheConstants.{MOST_ROWS}

-- ---- sizes
clamped : (n : ℕ) → IsLength (max 1 (min LONGEST n))
clamped n = record { least = least n; greatest = greatest n }
  where
    least : (n : ℕ) → 1 ≤ max 1 (min LONGEST n)
    least n = grind arith

    greatest : (n : ℕ) → max 1 (min LONGEST n) ≤ LONGEST
    greatest n = grind arith

by_digits : (z : ℤ) (n : ℕ) → IsLength n → IsLengthIfAny (size_of_digits z n)
by_digits (pos zero) n h = tt
by_digits (pos (suc m)) n h = h
by_digits (negsuc m) n h = tt

size_length : (shift : ℤ) (maxh : Option Dec) → IsLengthIfAny (size_at shift maxh)
size_length shift None = tt
size_length shift (Some v) = by_digits v.digits (length_at shift v) (clamped _)

-- ---- points
source_front : (at : Point) (size : Option ℕ) (ss : List Source) → IsOnGrid at → IsLengthIfAny size → All IsSource ss → All IsSource (with_source at size ss)
source_front at None ss on h all = all
source_front at (Some n) ss on h all = All-cons IsSource (record { at = at; h = n }) ss (record { on_grid = on; length = h }) all

pub all_sources : (shift : ℤ) (rows : List PointRow) → All (FitsRow shift) rows → All IsSource (sources_of shift rows)
all_sources shift [] fits = All-nil IsSource
all_sources shift (row ∷ rows) fits = source_front (place_of shift row) (size_at shift row.maxh) (sources_of shift rows) (place_on_grid shift row (All-head (FitsRow shift) row rows fits)) (size_length shift row.maxh)
    (all_sources shift rows (All-tail (FitsRow shift) row rows fits))

-- ---- segments
pub segment_sizes : (shift : ℤ) (points : List PointRow) (number : ℕ) (rows : List SegmentRow) → All (λ s. IsLengthIfAny s.maxh) (segments_from shift points number rows)
segment_sizes shift points number [] = All-nil (λ s. IsLengthIfAny s.maxh)
segment_sizes shift points number (row ∷ rows) = All-cons (λ s. IsLengthIfAny s.maxh) (segment_of shift points number row) (segments_from shift points (number + 1) rows) (size_length shift row.maxh) (segment_sizes shift points (number + 1) rows)

given_or : (bc : Option ℕ) (number : ℕ) → IfSome bc IsBoundaryNumber → IsBoundaryNumber number → IsBoundaryNumber (unwrap_or bc number)
given_or None number h j = j
given_or (Some n) number h j = h

-- as many rows as there may be have numbers below the greatest
pub boundary_numbers : (shift : ℤ) (points : List PointRow) (number : ℕ) (rows : List SegmentRow) → 1 ≤ number → number + length rows ≤ MOST_ROWS + 1 → All (IsReadableSegment points) rows → All (λ s. IsBoundaryNumber s.bc) (segments_from shift points number rows)
boundary_numbers shift points number [] h j all = All-nil (λ s. IsBoundaryNumber s.bc)
boundary_numbers shift points number (row ∷ rows) h j all = All-cons (λ s. IsBoundaryNumber s.bc) (segment_of shift points number row) (segments_from shift points (number + 1) rows)
    (given_or row.bc number (All-head (IsReadableSegment points) row rows all).bc (omega arith, omega arith)) (boundary_numbers shift points (number + 1) rows (omega arith) (omega arith) (All-tail (IsReadableSegment points) row rows all))

-- ---- domains
material_size : (shift : ℤ) (domain : ℕ) (before : Option ℕ) (rows : List MaterialRow) → IsLengthIfAny before → IsLengthIfAny (size_from shift domain before rows)
material_size shift domain before [] h = h
material_size shift domain before (row ∷ rows) h = material_size shift domain (if row.domain == domain then size_at shift row.maxh else before) rows (by (row.domain == domain))
  where
    by : (b : Bool) → IsLengthIfAny (if b then size_at shift row.maxh else before)
    by true = size_length shift row.maxh
    by false = h

pub domain_sizes : (shift : ℤ) (rows : List MaterialRow) (ds : List ℕ) → All (λ d. IsLengthIfAny d.maxh) (map (domain_at shift rows) ds)
domain_sizes shift rows [] = All-nil (λ d. IsLengthIfAny d.maxh)
domain_sizes shift rows (d ∷ ds) = All-cons (λ d. IsLengthIfAny d.maxh) (domain_at shift rows d) (map (domain_at shift rows) ds) (material_size shift d None rows tt) (domain_sizes shift rows ds)

pub numbers_of : (shift : ℤ) (rows : List MaterialRow) (ds : List ℕ) → map (λ (d : Domain). d.number) (map (domain_at shift rows) ds) ≡ ds
numbers_of shift rows [] = refl
numbers_of shift rows (d ∷ ds) = ap (λ (es : List ℕ). d ∷ es) (numbers_of shift rows ds)
