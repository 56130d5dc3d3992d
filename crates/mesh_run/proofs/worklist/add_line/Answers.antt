use Rattle.mesh_run.proofs.Turns.{stays_on}
use Rattle.mesh_run.proofs.worklist.add_line.Goals as goal

pub returns-in_ok-insert-clause-stay : goal.returns-in_ok-insert-clause-stay
returns-in_ok-insert-clause-stay c = λ turn on. stays_on c.args.work.now c.insert.new.self _ turn c.in_ok-insert.ensures.updates on
