use Rattle.mesh_run.proofs.Bounded.{at_number, number_within}
use Rattle.mesh_run.proofs.Listed.{among_first}
use Rattle.mesh_run.proofs.Named.{first_distinct}
use Rattle.mesh_run.proofs.Ordered.{first_before}
use Rattle.mesh_run.proofs.laws.law_numbering.Goals as goal

pub returns : goal.returns
returns c = record { different = first_distinct; same = λ ps p i. among_first ps i p; within = number_within; numbered = at_number; ordered = first_before }
