use Rattle.rule_match.proofs.NearBack.{none_later_at, covered_at, covered_above}
use Rattle.rule_match.proofs.laws.law_near_at.Goals as goal

pub returns : goal.returns
returns c = record { none = none_later_at; covered = covered_at; above = covered_above }
