use Rattle.std.proofs.Common.{◌≡◌, ℕ, ◌<◌, slice_index_or}
use Rattle.grid_geom.specs.declared.Point.{Point}
use Rattle.grid_geom.specs.Closed.{leaving, arriving}
use Rattle.geom_check.proofs.boundaries.open_at.Given as goal

abbrev pub invariant-loop-i : goal.invariant-loop-i
invariant-loop-i l = (k : ℕ) (d : Point) → k < l.i → leaving (slice_index_or l.points k d) l.edges ≡ arriving (slice_index_or l.points k d) l.edges
