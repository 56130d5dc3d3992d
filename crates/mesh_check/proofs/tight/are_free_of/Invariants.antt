use Rattle.std.proofs.Common.{ℕ, ◌<◌, slice_index_or}
use Rattle.grid_geom.specs.declared.Point.{Point}
use Rattle.mesh_check.specs.Near.{IsFreeOf}
use Rattle.mesh_check.proofs.tight.are_free_of.Given as goal

abbrev pub invariant-loop-point : goal.invariant-loop-point
invariant-loop-point l = (k : ℕ) (d : Point) → k < l.point-index → IsFreeOf l.tree.entries (slice_index_or l.points k d)
