use Rattle.wind_law.proofs.Uncrossed.{law_uncrossed as proved}
use Rattle.wind_law.proofs.laws.law_uncrossed.Goals as goal

pub returns : goal.returns
returns c = proved
