use Rattle.vol_format.proofs.Refused.{one_refusal, no_refusal}
use Rattle.vol_format.proofs.laws.one_refusal.Goals as goal

pub returns-clause-one : goal.returns-clause-one
returns-clause-one c = one_refusal

pub returns-clause-none : goal.returns-clause-none
returns-clause-none c = no_refusal
