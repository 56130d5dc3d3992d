use Rattle.admission.proofs.Answered.{refusal_true}
use Rattle.admission.proofs.laws.law_refusal.Goals as goal

pub returns : goal.returns
returns c = refusal_true
