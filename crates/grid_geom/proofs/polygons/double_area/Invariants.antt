use Rattle.std.proofs.Common.{◌≡◌, drop, pos, ◌+ℤ◌, ◌*ℤ◌}
use Rattle.grid_geom.specs.Bounds.{IsOnGrid, IsWithin}
use Rattle.grid_geom.specs.Polygon.{sides, way_round}
use Rattle.grid_geom.specs.Area.{shoelace}
use Rattle.grid_geom.specs.declared.orientation.TheConstants.{TURN}
use Rattle.grid_geom.proofs.polygons.double_area.Given as goal

abbrev pub invariant-loop-to : goal.invariant-loop-to
invariant-loop-to l = record {
  from_on : IsOnGrid l.from;
  ahead : shoelace (sides l.corners) ≡ l.sum +ℤ shoelace (way_round l.first l.from (drop l.to-index l.rest));
  small : IsWithin (TURN *ℤ pos l.to-index) l.sum;
}
