use Rattle.rule_maps.proofs.InReach.{mapped_in_reach, new_point_in_reach, corner_in_reach}
use Rattle.rule_maps.proofs.laws.law_reach.Goals as goal

pub returns : goal.returns
returns c = record { mapped = mapped_in_reach; new_points = new_point_in_reach; corners = corner_in_reach }
