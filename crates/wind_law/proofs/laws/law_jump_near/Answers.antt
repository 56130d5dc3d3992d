use Rattle.wind_law.proofs.JumpAt.{jump_at}
use Rattle.wind_law.proofs.laws.law_jump_near.Goals as goal

pub returns : goal.returns
returns c = jump_at
