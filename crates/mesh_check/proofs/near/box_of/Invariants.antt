use Rattle.std.proofs.Common.{ℕ, ◌<◌, slice_index_or}
use Rattle.grid_geom.specs.declared.Point.{Point}
use Rattle.mesh_check.specs.Near.{IsInBounds}
use Rattle.mesh_check.proofs.near.box_of.Given as goal

abbrev pub invariant-loop-corner : goal.invariant-loop-corner
invariant-loop-corner l = (k : ℕ) (d : Point) → k < l.corner-index → IsInBounds l.bounds (slice_index_or l.corners k d)
