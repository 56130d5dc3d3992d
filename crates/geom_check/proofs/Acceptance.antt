-- What was moved to the grid and found planar is the file's geometry.
use Rattle.std.proofs.Common.{◌≡◌, List, map, All, to_z, of_z, sym, ◌∙◌, ap, subst, arith}
use lib.IntN.{ℤ}
use lib.Signed.{◌≤ℤ◌}
use Rattle.std.proofs.lemmas.Int.{ints, to_z-of_z}
use Rattle.std.specs.Int.{w32}
use Rattle.std.specs.Prelude.{Any}
use Rattle.in2d_reader.specs.declared.geometry.RawGeometry.{RawGeometry}
use Rattle.geom_check.specs.declared.kinds.Segment.{Segment}
use Rattle.geom_check.specs.declared.kinds.Source.{Source}
use Rattle.geom_check.specs.declared.kinds.Domain.{Domain}
use Rattle.geom_check.specs.declared.placing.Placed.{Placed}
use Rattle.geom_check.specs.Shift.{FitsRow, IsShift}
use Rattle.geom_check.specs.Placed.{IsReadable, IsPlaced, points_of, segments_of}
use Rattle.geom_check.specs.Accepted.{NamesDomain, IsPlanar}
use Rattle.geom_check.specs.Boundary.{IsBoundaryNumber}
use Rattle.geom_check.specs.Domains.{domain_numbers}
use Rattle.geom_check.specs.Geometry.{PlanarMap, IsLengthIfAny, IsSource, IsGeometry, IsGeometryOf, map_of, sources_of, domains_of}
use Rattle.geom_check.proofs.PlacedGrid.{placed_joined}
use Rattle.geom_check.proofs.KeptSizes.{all_sources, segment_sizes, boundary_numbers, domain_sizes, numbers_of}
use Rattle.geom_check.proofs.Refusals.{accepted_placed}
use Rattle.geom_check.specs.declared.limits.TheConstants.{COARSEST, FINEST}

-- a shift is a number of 32 bits
shift_kept : (shift : ℤ) → COARSEST ≤ℤ shift → shift ≤ℤ FINEST → to_z w32 (of_z w32 shift) ≡ shift
shift_kept shift h j = to_z-of_z w32 shift (omega (arith, ints))

abbrev pub placed_map : Placed → ℤ → List Source → List Domain → PlanarMap
placed_map placed shift flagged domains = map_of shift placed.points placed.segments flagged domains

is_geometry : (raw : RawGeometry) (placed : Placed) (shift : ℤ) (flagged : List Source) (domains : List Domain) → IsReadable raw → IsPlaced raw placed → IsPlanar placed.points placed.segments →
    placed.shift ≡ shift → flagged ≡ sources_of shift raw.points → domains ≡ domains_of shift placed.segments raw.materials → IsGeometry (placed_map placed shift flagged domains)
is_geometry raw placed shift flagged domains h is planar e f g = let j = placed_joined raw placed h is in record {
  planar = planar;
  shift_least = subst (λ (d : ℤ). COARSEST ≤ℤ d) e is.shift.least;
  shift_greatest = subst (λ (d : ℤ). d ≤ℤ FINEST) e is.shift.greatest;
  on_grid = j.on_grid;
  joined = j.joined;
  few_points = j.few_points;
  few_segments = j.few_segments;
  boundary_numbers = subst (All (λ (s : Segment). IsBoundaryNumber s.bc)) (sym is.segments) (boundary_numbers placed.shift raw.points 1 raw.segments (omega arith) (omega (arith, h.few_segments)) h.segments);
  segment_sizes = subst (All (λ (s : Segment). IsLengthIfAny s.maxh)) (sym is.segments) (segment_sizes placed.shift raw.points 1 raw.segments);
  sources = subst (All IsSource) (sym f) (all_sources shift raw.points (subst (λ (d : ℤ). All (FitsRow d) raw.points) e is.shift.fits));
  numbers = ap (map (λ (d : Domain). d.number)) g ∙ numbers_of shift raw.materials (domain_numbers placed.segments);
  domain_sizes = subst (All (λ (d : Domain). IsLengthIfAny d.maxh)) (sym g) (domain_sizes shift raw.materials (domain_numbers placed.segments));
}

pub geometry_placed : (raw : RawGeometry) (placed : Placed) (flagged : List Source) (domains : List Domain) → IsReadable raw → IsPlaced raw placed → IsPlanar placed.points placed.segments →
    flagged ≡ sources_of (to_z w32 (of_z w32 placed.shift)) raw.points → domains ≡ domains_of (to_z w32 (of_z w32 placed.shift)) placed.segments raw.materials →
    IsGeometry (placed_map placed (to_z w32 (of_z w32 placed.shift)) flagged domains)
geometry_placed raw placed flagged domains h is planar =
    is_geometry raw placed (to_z w32 (of_z w32 placed.shift)) flagged domains h is planar (sym (shift_kept placed.shift is.shift.least is.shift.greatest))

geometry_is : (raw : RawGeometry) (placed : Placed) (shift : ℤ) (flagged : List Source) (domains : List Domain) → Any NamesDomain raw.segments → IsPlaced raw placed → IsPlanar placed.points placed.segments →
    placed.shift ≡ shift → flagged ≡ sources_of shift raw.points → domains ≡ domains_of shift placed.segments raw.materials → IsGeometryOf raw (placed_map placed shift flagged domains)
geometry_is raw placed shift flagged domains named is planar e f g = record {
  accepted = accepted_placed raw placed named is planar;
  shift = subst (λ (d : ℤ). IsShift d raw.points) e is.shift;
  points = is.points ∙ ap (λ (d : ℤ). points_of d raw.points) e;
  segments = is.segments ∙ ap (λ (d : ℤ). segments_of d raw) e;
  flagged = f;
  domains = g;
}

pub geometry_of_placed : (raw : RawGeometry) (placed : Placed) (flagged : List Source) (domains : List Domain) (g : PlanarMap) → Any NamesDomain raw.segments → IsPlaced raw placed → IsPlanar placed.points placed.segments →
    flagged ≡ sources_of (to_z w32 (of_z w32 placed.shift)) raw.points → domains ≡ domains_of (to_z w32 (of_z w32 placed.shift)) placed.segments raw.materials → g ≡ placed_map placed (to_z w32 (of_z w32 placed.shift)) flagged domains → IsGeometryOf raw g
geometry_of_placed raw placed flagged domains g named is planar e f j =
    let kept = sym (shift_kept placed.shift is.shift.least is.shift.greatest) in
    subst (IsGeometryOf raw) (sym j) (geometry_is raw placed (to_z w32 (of_z w32 placed.shift)) flagged domains named is planar kept e f)
