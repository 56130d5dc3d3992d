-- What an accepted geometry keeps of its file.
--
-- PlanarMap      points and segments on the grid, the sizes around points, and the domains
-- sources_of     the points of a file that bound sizes
-- domains_of     the domains that segments name, each with the size that the file gives
-- IsLength       a length from 1 to the greatest that a size may have
-- IsGeometry     what holds of each accepted geometry
-- IsGeometryOf   the geometry of a file
use Rattle.std.specs.Prelude.{◌≡◌, ℕ, ◌≤◌, ◌==◌, if◌then◌else◌, List, [], ◌∷◌, length, map, All, Option, Some, None, ℤ, ◌≤ℤ◌}
use Rattle.grid_geom.specs.declared.Point.{Point}
use Rattle.grid_geom.specs.declared.TheConstants.{LONGEST}
use Rattle.grid_geom.specs.Bounds.{IsOnGrid}
use Rattle.in2d_reader.specs.declared.geometry.PointRow.{PointRow}
use Rattle.in2d_reader.specs.declared.geometry.MaterialRow.{MaterialRow}
use Rattle.in2d_reader.specs.declared.geometry.RawGeometry.{RawGeometry}
use Rattle.geom_check.specs.declared.kinds.Segment.{Segment}
use Rattle.geom_check.specs.declared.kinds.Source.{Source}
use Rattle.geom_check.specs.declared.kinds.Domain.{Domain}
use Rattle.geom_check.specs.Shift.{size_at, IsShift}
use Rattle.geom_check.specs.Placed.{place_of, points_of, segments_of}
use Rattle.geom_check.specs.Boundary.{IsSegmentOf, IsBoundaryNumber}
use Rattle.geom_check.specs.Domains.{domain_numbers}
use Rattle.geom_check.specs.Accepted.{IsPlanar, IsAccepted}
use Rattle.geom_check.specs.declared.limits.TheConstants.{MOST_ROWS, COARSEST, FINEST}

-- points and segments on the grid, the points that bound the sizes around them, and the domains, rising
pub record PlanarMap : Type 0 where
  pub shift : ℤ
  pub points : List Point
  pub segments : List Segment
  pub flagged : List Source
  pub domains : List Domain

-- the map of these parts
abbrev pub map_of : ℤ → List Point → List Segment → List Source → List Domain → PlanarMap
map_of shift points segments flagged domains =
    record {
      shift = shift;
      points = points;
      segments = segments;
      flagged = flagged;
      domains = domains;
    }

-- a source in front, where the point has a size
abbrev pub with_source : Point → Option ℕ → List Source → List Source
with_source at None ss = ss
with_source at (Some h) ss = record { at = at; h = h } ∷ ss

-- the points with an effective size, in the order of their rows
abbrev pub sources_of : ℤ → List PointRow → List Source
sources_of shift [] = []
sources_of shift (row ∷ rows) =
    with_source (place_of shift row) (size_at shift row.maxh) (sources_of shift rows)

-- the size that the last row of a domain gives, and `before` where no row is of the domain
abbrev pub size_from : ℤ → ℕ → Option ℕ → List MaterialRow → Option ℕ
size_from shift domain before [] = before
size_from shift domain before (row ∷ rows) =
    size_from shift domain (if row.domain == domain then size_at shift row.maxh else before) rows

-- the greatest size of a domain
abbrev pub domain_size : ℤ → List MaterialRow → ℕ → Option ℕ
domain_size shift rows domain = size_from shift domain None rows

-- a domain with its greatest size
abbrev pub domain_at : ℤ → List MaterialRow → ℕ → Domain
domain_at shift rows number = record { number = number; maxh = domain_size shift rows number }

-- the domains that segments name, rising, each with its greatest size
abbrev pub domains_of : ℤ → List Segment → List MaterialRow → List Domain
domains_of shift segments rows = map (domain_at shift rows) (domain_numbers segments)

-- a length in grid steps: from 1 to the greatest that a size may have
pub record IsLength (n : ℕ) : Type 0 where
  pub least : 1 ≤ n
  pub greatest : n ≤ LONGEST

-- a length that may be absent
abbrev pub IsLengthIfAny : Option ℕ → Type 0
IsLengthIfAny None = Unit {0}
IsLengthIfAny (Some n) = IsLength n

-- a grid point with a size
pub record IsSource (s : Source) : Type 0 where
  pub on_grid : IsOnGrid s.at
  pub length : IsLength s.h

-- what holds of each geometry that was accepted
pub record IsGeometry (g : PlanarMap) : Type 0 where
  pub planar : IsPlanar g.points g.segments
  pub shift_least : COARSEST ≤ℤ g.shift
  pub shift_greatest : g.shift ≤ℤ FINEST
  pub on_grid : All IsOnGrid g.points
  pub joined : All (IsSegmentOf (length g.points)) g.segments
  pub few_points : length g.points ≤ MOST_ROWS
  pub few_segments : length g.segments ≤ MOST_ROWS
  pub boundary_numbers : All (λ s. IsBoundaryNumber s.bc) g.segments
  pub segment_sizes : All (λ s. IsLengthIfAny s.maxh) g.segments
  pub sources : All IsSource g.flagged
  pub numbers : map (λ d. d.number) g.domains ≡ domain_numbers g.segments
  pub domain_sizes : All (λ d. IsLengthIfAny d.maxh) g.domains

-- the geometry of an accepted file
pub record IsGeometryOf (raw : RawGeometry) (g : PlanarMap) : Type 0 where
  pub accepted : IsAccepted raw
  pub shift : IsShift g.shift raw.points
  pub points : g.points ≡ points_of g.shift raw.points
  pub segments : g.segments ≡ segments_of g.shift raw
  pub flagged : g.flagged ≡ sources_of g.shift raw.points
  pub domains : g.domains ≡ domains_of g.shift g.segments raw.materials
