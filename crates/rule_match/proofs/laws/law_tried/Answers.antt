use Rattle.rule_match.specs.Trying.{starts}
use Rattle.rule_match.proofs.Places.{allowed, on_its_front}
use Rattle.rule_match.proofs.Tried.{tried}
use Rattle.rule_match.proofs.laws.law_tried.Goals as goal

pub returns-clause-starts : goal.returns-clause-starts
returns-clause-starts c = starts

pub returns-clause-met : goal.returns-clause-met
returns-clause-met c = λ st t near lines scope around looked is. tried st t near lines scope around looked (allowed st t is) (on_its_front st t is)
