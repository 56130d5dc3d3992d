use Rattle.free_zone.proofs.OneAnswer.{one_answer}
use Rattle.free_zone.proofs.laws.law_one_answer.Goals as goal

pub returns : goal.returns
returns c = one_answer
