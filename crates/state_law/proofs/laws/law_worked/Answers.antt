use Rattle.state_law.proofs.Worked.{worked_may, worked_glued, worked_joined, worked_corner_on_line, worked_turned}
use Rattle.state_law.proofs.laws.law_worked.Goals as goal

pub returns : goal.returns
returns c = record { may = worked_may; empties = worked_glued; joined = worked_joined; corner_on_line = worked_corner_on_line; turned = worked_turned }
