use Rattle.std.proofs.Common.{◌≡◌, drop}
use Rattle.std.specs.List.{list_any}
use Rattle.grid_geom.specs.Bounds.{IsOnGrid}
use Rattle.grid_geom.specs.Polygon.{sides, way_round, is_outside}
use Rattle.grid_geom.proofs.polygons.outside_a_side.Given as goal

abbrev pub invariant-loop-to : goal.invariant-loop-to
invariant-loop-to l = record {
  from_on : IsOnGrid l.from;
  ahead : list_any (is_outside l.a l.b) (sides l.corners) ≡ list_any (is_outside l.a l.b) (way_round l.first l.from (drop l.to-index l.rest));
}
