use Rattle.rule_maps.proofs.Rounding.{nearest_near, one_nearest}
use Rattle.rule_maps.proofs.laws.law_nearest.Goals as goal

pub returns : goal.returns
returns c = record { near = nearest_near; one = one_nearest }
