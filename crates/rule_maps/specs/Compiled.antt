-- What is kept of a rule beside its text.
use Rattle.std.specs.Prelude.{◌≡◌, ℕ, List, map, Option}
use Rattle.rule_reader.specs.declared.rule.Rule.{Rule}
use Rattle.rule_reader.specs.Normal.{IsRule}
use Rattle.rule_maps.specs.declared.sums.PlaceConstants.{PlaceConstants}
use Rattle.rule_maps.specs.declared.inert.Inert.{Inert}
use Rattle.rule_maps.specs.Sums.{constants_of}
use Rattle.rule_maps.specs.Inert.{HasState}
use Rattle.rule_maps.specs.Reach.{IsReachOf}

-- the constants of each place, the rule's state and its reach
pub record Compilation : Type 0 where
  pub new_points : List PlaceConstants
  pub area : List PlaceConstants
  pub limit : List PlaceConstants
  pub inert : Option Inert
  pub reach : ℕ

pub record IsCompiled (r : Rule) (c : Compilation) : Type 0 where
  pub rule : IsRule r
  pub new_points : c.new_points ≡ map (constants_of r.points) r.new_points
  pub area : c.area ≡ map (constants_of r.points) r.area
  pub limit : c.limit ≡ map (constants_of r.points) r.limit
  pub state : HasState r c.inert
  pub reach : IsReachOf r c.reach
