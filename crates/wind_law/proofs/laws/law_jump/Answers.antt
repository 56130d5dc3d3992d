use Rattle.wind_law.proofs.Passage.{jump_by_points}
use Rattle.wind_law.proofs.laws.law_jump.Goals as goal

pub returns : goal.returns
returns c = jump_by_points
