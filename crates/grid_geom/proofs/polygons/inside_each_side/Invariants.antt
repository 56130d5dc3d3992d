use Rattle.std.proofs.Common.{◌≡◌, drop}
use Rattle.std.specs.List.{list_all}
use Rattle.grid_geom.specs.Bounds.{IsOnGrid}
use Rattle.grid_geom.specs.Polygon.{sides, way_round, is_left}
use Rattle.grid_geom.proofs.polygons.inside_each_side.Given as goal

abbrev pub invariant-loop-to : goal.invariant-loop-to
invariant-loop-to l = record { from_on : IsOnGrid l.from; ahead : list_all (is_left l.q) (sides l.corners) ≡ list_all (is_left l.q) (way_round l.first l.from (drop l.to-index l.rest)) }
