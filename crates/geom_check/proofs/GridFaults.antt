-- The first fault of points and segments on the grid, as it is found.
use Rattle.std.proofs.Common.{List, All}
use Rattle.grid_geom.specs.declared.Point.{Point}
use Rattle.geom_check.specs.declared.kinds.Segment.{Segment}
use Rattle.geom_check.specs.declared.refusal.GeomRefusal.{GeomRefusal}
use Rattle.geom_check.specs.declared.refusal.GeomRefusal.TheVariants.{Side, Overlap, Memory}
use Rattle.geom_check.specs.Boundary.{edges_of}
use Rattle.geom_check.specs.Accepted.{ArePlacesDifferent, HasDifferentDomains, HasTwoEnds, AreApart, AreClosed}
use Rattle.geom_check.specs.Refused.{IsWindingFault, IsFaultOrMemory}

-- a fault of winding numbers, where there was none before
pub winding_fault : (points : List Point) (segments : List Segment) (refusal : GeomRefusal) → ArePlacesDifferent points → All HasDifferentDomains segments → All HasTwoEnds segments → AreApart (edges_of points segments) → AreClosed points segments →
    IsWindingFault points segments refusal → IsFaultOrMemory points segments refusal
winding_fault points segments (Side domain at) places sides ends apart closed h = (places, (sides, (ends, (apart, (closed, h)))))
winding_fault points segments (Overlap at) places sides ends apart closed h = (places, (sides, (ends, (apart, (closed, h)))))
winding_fault points segments Memory places sides ends apart closed h = tt
winding_fault points segments _ places sides ends apart closed h = absurd h
