use Rattle.std.proofs.Common.{◌≢◌, ℕ, ◌<◌, pos, ◌<ℤ◌}
use Rattle.grid_geom.specs.Plane.{orient}
use Rattle.grid_geom.specs.Polygon.{corner_at, after}
use Rattle.grid_geom.proofs.polygons.rest_left.Given as goal

abbrev pub invariant-loop-j : goal.invariant-loop-j
invariant-loop-j l = (j : ℕ) → j < l.j → j ≢ l.i → j ≢ after l.corners l.i → pos 0 <ℤ orient (corner_at l.corners l.i) (corner_at l.corners (after l.corners l.i)) (corner_at l.corners j)
