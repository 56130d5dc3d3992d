use Rattle.rule_maps.proofs.Exact.{corner_exact}
use Rattle.rule_maps.proofs.laws.law_exact.Goals as goal

pub returns : goal.returns
returns c = corner_exact
