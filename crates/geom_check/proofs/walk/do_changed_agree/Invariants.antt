use Rattle.std.proofs.Common.{ℕ, ◌<◌, ◌≤◌, length, slice_index_or}
use Rattle.geom_check.specs.Walk.{DoAgreeAt}
use Rattle.geom_check.proofs.walk.do_changed_agree.Given as goal

abbrev pub invariant-loop-place : goal.invariant-loop-place
invariant-loop-place l = (k d : ℕ) → k < l.place-index → 1 ≤ slice_index_or l.changed k d → slice_index_or l.changed k d < length l.order → DoAgreeAt l.risers l.order (slice_index_or l.changed k d)
