use Rattle.geom_check.specs.Walk.{AreEndsOf}
use Rattle.geom_check.proofs.events.all_events.Given as goal

abbrev pub invariant-loop-id : goal.invariant-loop-id
invariant-loop-id l = AreEndsOf l.risers l.id l.events.items
