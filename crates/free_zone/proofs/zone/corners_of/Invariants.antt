use Rattle.std.proofs.Common.{◌≡◌, take}
use Rattle.std.specs.List.{All}
use Rattle.grid_geom.specs.Bounds.{IsOnGrid}
use Rattle.rule_maps.specs.Places.{mapping}
use Rattle.free_zone.specs.Zone.{zone_of}
use Rattle.free_zone.proofs.zone.corners_of.Given as goal

abbrev pub invariant-loop-k : goal.invariant-loop-k
invariant-loop-k l = (l.corners.items ≡ take l.k (zone_of (mapping l.f l.c l.mapped) l.class)) × (l.corners.capacity ≡ 24) × All IsOnGrid l.corners.items
