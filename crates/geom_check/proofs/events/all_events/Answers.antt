use Rattle.std.proofs.Common.{arith}
use Rattle.geom_check.proofs.EventLists.{both_pushed}
use Rattle.geom_check.proofs.events.all_events.Goals as goal

pub loop-id-preserved : goal.loop-id-preserved
loop-id-preserved c = both_pushed c.args.risers.now c.loop-id.id _ c.loop-id.events.items c.push.new.self.items c.push-in-loop-id.new.self.items c.lower_end.result c.upper_end.result (omega arith)
    (record { end = c.lower_end.ensures.end; id_is = c.lower_end.ensures.id; upper_is = c.lower_end.ensures.is_upper })
    (record { end = c.upper_end.ensures.end; id_is = c.upper_end.ensures.id; upper_is = c.upper_end.ensures.is_upper })
    c.in_ok-push.ensures.items c.in_ok-push-2.ensures.items c.loop-id.invariant
