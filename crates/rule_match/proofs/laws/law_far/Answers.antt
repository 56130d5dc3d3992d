use Rattle.rule_match.proofs.FarAway.{alike_after}
use Rattle.rule_match.proofs.laws.law_far.Goals as goal

pub returns : goal.returns
returns c = alike_after
