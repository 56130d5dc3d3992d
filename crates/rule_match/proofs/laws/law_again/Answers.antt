use Rattle.rule_match.proofs.KeptOne.{kept_one}
use Rattle.rule_match.proofs.laws.law_again.Goals as goal

pub returns : goal.returns
returns c = kept_one
