use Rattle.wind_law.proofs.NearPoint.{near_point}
use Rattle.wind_law.proofs.laws.law_near_point.Goals as goal

pub returns : goal.returns
returns c = near_point
