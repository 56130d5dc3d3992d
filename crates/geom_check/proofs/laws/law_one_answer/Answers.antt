use Rattle.geom_check.proofs.OneAnswer.{accepted_unrefused}
use Rattle.geom_check.proofs.OneRefusal.{one_refusal}
use Rattle.geom_check.proofs.OneGeometry.{one_geometry}
use Rattle.geom_check.proofs.laws.law_one_answer.Goals as goal

pub returns : goal.returns
returns c = record { accepted = accepted_unrefused; one = one_refusal; geometry = one_geometry }
