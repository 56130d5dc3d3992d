-- An accepted file has no refusal.
use Rattle.std.proofs.Common.{◌≡◌, ℕ, List, All, None, refl}
use lib.IntN.{pos}
use Rattle.grid_geom.specs.declared.Point.{Point}
use Rattle.grid_geom.specs.declared.RatPoint.{RatPoint}
use Rattle.in2d_reader.specs.declared.geometry.PointRow.{PointRow}
use Rattle.in2d_reader.specs.declared.geometry.RawGeometry.{RawGeometry}
use Rattle.geom_check.specs.declared.kinds.Segment.{Segment}
use Rattle.geom_check.specs.declared.refusal.GeomRefusal.{GeomRefusal}
use Rattle.geom_check.specs.declared.refusal.GeomRefusal.TheVariants.{NoDomain, TooLarge, SamePlace, SameSides, NoLength, Meet, OpenAt, Side, Overlap, Memory}
use Rattle.geom_check.specs.Placed.{points_of, segments_of}
use Rattle.geom_check.specs.Boundary.{edges_of}
use Rattle.geom_check.specs.Accepted.{IsPlanar, IsAccepted, AreClosed, WindsAtMostOnce}
use Rattle.geom_check.specs.Refused.{IsFirstFailing, IsFault, IsPlacedFault, IsRefusal, IsLeastOpen, IsLeastSide}
use Rattle.geom_check.proofs.GapMiddles.{middle_off}
use Rattle.geom_check.proofs.SomeShift.{some_shift}

abbrev pub some_point : Point
some_point = record { x = pos 0; y = pos 0 }

abbrev pub some_segment : Segment
some_segment = record { left = 0; right = 0; p = 0; q = 0; bc = 0; maxh = None }

abbrev pub some_row : PointRow
some_row = record { number = 0; x = record { digits = pos 0; scale = pos 0 }; y = record { digits = pos 0; scale = pos 0 }; maxh = None }

-- an item at which P fails is none of a list of items with P
pub none_fails : {A : Type 0} (P : A → Type 0) (items : List A) (n : ℕ) (d : A) → IsFirstFailing P items n → ¬ (All P items)
none_fails P items n d f all = f.fails d (all f.index d f.in_list)

-- a closed boundary is open at no point
pub not_open : (points : List Point) (segments : List Segment) (point domain : ℕ) → IsLeastOpen points segments point domain → ¬ (AreClosed points segments)
not_open points segments point domain f closed = f.open_at.fails some_point ((closed domain f.positive).balanced _)

-- a domain with sides has a witness of a fault of its sides nowhere
pub no_side : (points : List Point) (segments : List Segment) (domain : ℕ) (at : RatPoint) → IsLeastSide points segments domain at → ¬ (WindsAtMostOnce points segments domain)
no_side points segments domain at f sides = f.witness.fault (sides at f.witness.middle.height.rational (middle_off (edges_of points segments) at f.witness.middle))

planar_faultless : (refusal : GeomRefusal) (points : List Point) (segments : List Segment) → IsPlanar points segments → ¬ (IsFault refusal points segments)
planar_faultless NoDomain points segments h f = f
planar_faultless (TooLarge point) points segments h f = f
planar_faultless (SamePlace i j) points segments h f = h.places f.first f.second f.holds
planar_faultless (SameSides segment) points segments h f = none_fails _ segments segment some_segment f.1 h.sides
planar_faultless (NoLength segment) points segments h f = none_fails _ segments segment some_segment f.1.1 h.ends
planar_faultless (Meet i j) points segments h f = h.apart f.1.1.1.first f.1.1.1.second f.1.1.1.holds
planar_faultless (OpenAt point domain) points segments h f = not_open points segments point domain f.1.1.1.1 h.closed
planar_faultless (Side domain at) points segments h f = no_side points segments domain at f.1.1.1.1.1 (h.winding domain f.1.1.1.1.1.positive)
planar_faultless (Overlap at) points segments h f = h.separate at f.1.1.1.1.1.1.middle.height.rational (middle_off (edges_of points segments) at f.1.1.1.1.1.1.middle) f.1.1.1.1.1.1.fault
planar_faultless Memory points segments h f = f

-- an accepted file has no fault on the grid
placed_faultless : (raw : RawGeometry) (refusal : GeomRefusal) → IsAccepted raw → ¬ (IsPlacedFault raw refusal)
placed_faultless raw refusal h f =
    let some = some_shift raw.points h.fits in
    planar_faultless refusal (points_of some.0 raw.points) (segments_of some.0 raw) (h.planar some.0 some.1) (f.fault some.0 some.1)

pub accepted_unrefused : (raw : RawGeometry) (refusal : GeomRefusal) → IsAccepted raw → IsRefusal raw refusal → refusal ≡ Memory
accepted_unrefused raw NoDomain h f = absurd (f h.domain)
accepted_unrefused raw (TooLarge point) h f = absurd (none_fails _ raw.points point some_row f.1 h.fits)
accepted_unrefused raw Memory h f = refl
accepted_unrefused raw (SamePlace i j) h f = absurd (placed_faultless raw (SamePlace i j) h f)
accepted_unrefused raw (SameSides segment) h f = absurd (placed_faultless raw (SameSides segment) h f)
accepted_unrefused raw (NoLength segment) h f = absurd (placed_faultless raw (NoLength segment) h f)
accepted_unrefused raw (Meet i j) h f = absurd (placed_faultless raw (Meet i j) h f)
accepted_unrefused raw (OpenAt point domain) h f = absurd (placed_faultless raw (OpenAt point domain) h f)
accepted_unrefused raw (Side domain at) h f = absurd (placed_faultless raw (Side domain at) h f)
accepted_unrefused raw (Overlap at) h f = absurd (placed_faultless raw (Overlap at) h f)
