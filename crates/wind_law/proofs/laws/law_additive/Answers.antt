use Rattle.wind_law.proofs.Additive.{wind_append, wind_back, wind_cut}
use Rattle.wind_law.proofs.laws.law_additive.Goals as goal

pub returns : goal.returns
returns c = record { sums = wind_append; backwards = wind_back; cut = wind_cut }
