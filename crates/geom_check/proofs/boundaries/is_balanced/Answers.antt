use Rattle.std.proofs.Common.{pos, arith}
use Rattle.geom_check.proofs.Closing.{leaving_drop, arriving_drop}
use Rattle.geom_check.proofs.boundaries.is_balanced.Goals as goal

pub loop-edge-preserved : goal.loop-edge-preserved
loop-edge-preserved c = (
  omega (arith, c.leaves-departures.ensures.value, leaving_drop c.args.at.now c.args.edges.now c.loop-edge.edge-index (record { a = record { x = pos 0; y = pos 0 }; b = record { x = pos 0; y = pos 0 } }) (omega arith)),
  omega (arith, c.leaves-departures.ensures.small),
  omega (arith, c.arrives-arrivals.ensures.value, arriving_drop c.args.at.now c.args.edges.now c.loop-edge.edge-index (record { a = record { x = pos 0; y = pos 0 }; b = record { x = pos 0; y = pos 0 } }) (omega arith)),
  omega (arith, c.arrives-arrivals.ensures.small),
)
