use Rattle.mesh_run.proofs.CutFronts.{cut_winds, cut_untangled, cut_apart, cut_region}
use Rattle.mesh_run.proofs.laws.law_cut.Goals as goal

pub returns : goal.returns
returns c = record { winds = cut_winds; one = cut_untangled; two = cut_apart; region = cut_region }
