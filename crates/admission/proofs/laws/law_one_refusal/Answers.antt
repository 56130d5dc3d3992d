use Rattle.admission.proofs.OneRefusal.{one_refusal}
use Rattle.admission.proofs.laws.law_one_refusal.Goals as goal

pub returns : goal.returns
returns c = one_refusal
