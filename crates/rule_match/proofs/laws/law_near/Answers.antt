use Rattle.rule_match.proofs.WithinReach.{within_reach}
use Rattle.rule_match.proofs.NearBack.{near_back, none_later}
use Rattle.rule_match.proofs.laws.law_near.Goals as goal

pub returns : goal.returns
returns c = record {
  within = λ n st t k h. within_reach n st t k.class k.frame k.rule k.covers h;
  candidate = near_back;
  none = none_later;
}
