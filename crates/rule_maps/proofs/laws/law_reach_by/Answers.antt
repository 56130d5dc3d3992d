use Rattle.rule_maps.proofs.InReach.{all_in_range, corner_by, new_point_by}
use Rattle.rule_maps.proofs.Reaches.{covers_by}
use Rattle.rule_maps.proofs.laws.law_reach_by.Goals as goal

pub returns : goal.returns
returns c = record { new_points = new_point_by; corners = corner_by; ranges = all_in_range; lesser = covers_by }
