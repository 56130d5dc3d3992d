use Rattle.std.proofs.Common.{ℕ, ◌<◌}
use Rattle.grid_geom.specs.Closed.{IsClosed}
use Rattle.geom_check.specs.Boundary.{boundary}
use Rattle.geom_check.proofs.boundaries.first_open.Given as goal

abbrev pub invariant-loop-domain : goal.invariant-loop-domain
invariant-loop-domain l = (d : ℕ) → 0 < d → d < l.domain → IsClosed (boundary l.points d l.segments)
