use Rattle.wind_law.proofs.SameChain.{same_wind, same_area, same_closed}
use Rattle.wind_law.proofs.laws.law_chain.Goals as goal

pub returns : goal.returns
returns c = record { winding = same_wind; area = same_area; closed = same_closed }
