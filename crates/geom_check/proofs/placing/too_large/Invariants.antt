use Rattle.std.proofs.Common.{ℕ, ◌<◌, slice_index_or}
use Rattle.in2d_reader.specs.declared.geometry.PointRow.{PointRow}
use Rattle.geom_check.specs.Shift.{FitsRow}
use Rattle.geom_check.proofs.placing.too_large.Given as goal

abbrev pub invariant-loop-i : goal.invariant-loop-i
invariant-loop-i l = (k : ℕ) (d : PointRow) → k < l.i → FitsRow l.scale.shift (slice_index_or l.rows k d)
