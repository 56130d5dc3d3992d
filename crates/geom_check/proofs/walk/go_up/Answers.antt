use Rattle.geom_check.proofs.WalkSteps.{up_to_next}
use Rattle.geom_check.proofs.walk.go_up.Goals as goal

pub returns-else-events-walk-clause-up_to : goal.returns-else-events-walk-clause-up_to
returns-else-events-walk-clause-up_to c e = up_to_next c.args.events.now c.loop-walk.walk.next c.args.level _ c.loop-walk-test.true c.if-events-walk.false c.requires.rising c.loop-walk.invariant.1
