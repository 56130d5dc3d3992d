-- A fault of what was moved to the grid is the file's.
use Rattle.std.proofs.Common.{◌≡◌, List, subst}
use lib.IntN.{ℤ}
use Rattle.std.specs.Prelude.{Any}
use Rattle.grid_geom.specs.declared.Point.{Point}
use Rattle.in2d_reader.specs.declared.geometry.RawGeometry.{RawGeometry}
use Rattle.geom_check.specs.declared.kinds.Segment.{Segment}
use Rattle.geom_check.specs.declared.placing.Placed.{Placed}
use Rattle.geom_check.specs.declared.refusal.GeomRefusal.{GeomRefusal}
use Rattle.geom_check.specs.declared.refusal.GeomRefusal.TheVariants.{NoDomain, TooLarge, SamePlace, SameSides, NoLength, Meet, OpenAt, Side, Overlap, Memory}
use Rattle.geom_check.specs.Shift.{IsShift}
use Rattle.geom_check.specs.Placed.{IsPlaced, points_of, segments_of}
use Rattle.geom_check.specs.Accepted.{NamesDomain, IsPlanar, IsAccepted}
use Rattle.geom_check.specs.Refused.{IsFault, IsFaultOrMemory, IsPlacedFault, IsPlaceRefusal, IsRefusal}
use Rattle.geom_check.proofs.SomeShift.{one_shift}

-- what holds of points and segments as they were placed holds of them at the file's shift
at_shift : (P : List Point → List Segment → Type 0) (raw : RawGeometry) (placed : Placed) → IsPlaced raw placed → P placed.points placed.segments → (shift : ℤ) → IsShift shift raw.points →
    P (points_of shift raw.points) (segments_of shift raw)
at_shift P raw placed is h shift j =
    let e : placed.shift ≡ shift = one_shift placed.shift shift raw.points is.shift j in
    subst (λ (z : ℤ). P (points_of z raw.points) (segments_of z raw)) e
    (subst (λ (points : List Point). P points (segments_of placed.shift raw)) is.points (subst (λ (segments : List Segment). P placed.points segments) is.segments h))

pub accepted_placed : (raw : RawGeometry) (placed : Placed) → Any NamesDomain raw.segments → IsPlaced raw placed → IsPlanar placed.points placed.segments → IsAccepted raw
accepted_placed raw placed named is h = record { domain = named; fits = is.coarsest; planar = at_shift IsPlanar raw placed is h }

placed_fault : (raw : RawGeometry) (placed : Placed) (refusal : GeomRefusal) → Any NamesDomain raw.segments → IsPlaced raw placed → IsFault refusal placed.points placed.segments → IsPlacedFault raw refusal
placed_fault raw placed refusal named is h = record { domain = named; fits = is.coarsest; fault = at_shift (IsFault refusal) raw placed is h }

pub refusal_placed : (raw : RawGeometry) (placed : Placed) (refusal : GeomRefusal) → Any NamesDomain raw.segments → IsPlaced raw placed → IsFaultOrMemory placed.points placed.segments refusal → IsRefusal raw refusal
refusal_placed raw placed NoDomain named is h = absurd h
refusal_placed raw placed (TooLarge point) named is h = absurd h
refusal_placed raw placed (SamePlace i j) named is h = placed_fault raw placed (SamePlace i j) named is h
refusal_placed raw placed (SameSides segment) named is h = placed_fault raw placed (SameSides segment) named is h
refusal_placed raw placed (NoLength segment) named is h = placed_fault raw placed (NoLength segment) named is h
refusal_placed raw placed (Meet i j) named is h = placed_fault raw placed (Meet i j) named is h
refusal_placed raw placed (OpenAt point domain) named is h = placed_fault raw placed (OpenAt point domain) named is h
refusal_placed raw placed (Side domain at) named is h = placed_fault raw placed (Side domain at) named is h
refusal_placed raw placed (Overlap at) named is h = placed_fault raw placed (Overlap at) named is h
refusal_placed raw placed Memory named is h = tt

-- and so is what keeps it from being moved there
pub refusal_unplaced : (raw : RawGeometry) (refusal : GeomRefusal) → Any NamesDomain raw.segments → IsPlaceRefusal raw refusal → IsRefusal raw refusal
refusal_unplaced raw (TooLarge point) named h = (named, h)
refusal_unplaced raw Memory named h = tt
refusal_unplaced raw _ named h = absurd h
