use Rattle.admission.proofs.Answered.{gluable, leads_on}
use Rattle.admission.proofs.laws.law_follows.Goals as goal

pub returns : goal.returns
returns c = record { gluable = gluable; on = leads_on }
