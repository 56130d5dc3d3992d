use Rattle.std.proofs.Common.{ℕ, ◌<◌}
use Rattle.grid_geom.specs.Polygon.{IsLeftOfRest}
use Rattle.grid_geom.proofs.polygons.strictly_convex.Given as goal

abbrev pub invariant-loop-i : goal.invariant-loop-i
invariant-loop-i l = (i : ℕ) → i < l.i → IsLeftOfRest l.corners i
