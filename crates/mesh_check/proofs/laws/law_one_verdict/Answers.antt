use Rattle.mesh_check.specs.declared.verdict.Verdict.TheVariants.{Whole}
use Rattle.mesh_check.proofs.OneVerdict.{one_verdict}
use Rattle.mesh_check.proofs.laws.law_one_verdict.Goals as goal

pub returns : goal.returns
returns c = record { one = one_verdict; whole = λ g m v h w. one_verdict g m v Whole h w }
