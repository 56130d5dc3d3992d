-- The zone of a rule at a class: the ground that it needs free. Origin: the free zone of NETGEN's rules (Schoeberl 1997).
--
-- zone_of   the corners of a rule's zone at a class, for a frame and mapped points
-- IsZone    corners on the grid and strictly convex
use Rattle.std.specs.Prelude.{ℕ, ◌+◌, List, [], ◌∷◌}
use Rattle.std.specs.List.{All}
use Rattle.grid_geom.specs.declared.Point.{Point}
use Rattle.grid_geom.specs.Bounds.{IsOnGrid}
use Rattle.grid_geom.specs.Polygon.{IsStrictlyConvex}
use Rattle.rule_reader.specs.declared.rule.Place.{Place}
use Rattle.rule_maps.specs.Places.{Mapping, corner}

-- the places of the zone's corners at the class from number k on
abbrev pub zone_from : Mapping → ℕ → ℕ → List Place → List Point
zone_from m class k [] = []
zone_from m class k (p ∷ ps) = corner m k class ∷ zone_from m class (k + 1) ps

abbrev pub zone_of : Mapping → ℕ → List Point
zone_of m class = zone_from m class 1 m.rule.area

-- the corners of a zone: on the grid and strictly convex
pub record IsZone (corners : List Point) : Type 0 where
  pub on_grid : All IsOnGrid corners
  pub convex : IsStrictlyConvex corners
