use Rattle.rule_match.proofs.Places.{refused_none}
use Rattle.rule_match.proofs.laws.law_none.Goals as goal

pub returns : goal.returns
returns c = λ sizes st rules line class notes f r. record { none = refused_none sizes st rules line class notes f r }
