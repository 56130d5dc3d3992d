use Rattle.wind_law.proofs.Overlap.{overlap}
use Rattle.wind_law.proofs.laws.law_overlap.Goals as goal

pub returns : goal.returns
returns c = overlap
