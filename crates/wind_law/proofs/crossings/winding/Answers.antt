use native.Mathlib.Omega.{arith}
use Rattle.std.proofs.Common.{pos}
use Rattle.std.proofs.lemmas.Int.{ints}
use Rattle.std.proofs.lemmas.List.{at_drop_more}
use Rattle.grid_geom.specs.Winding.{wind}
use Rattle.wind_law.proofs.crossings.winding.Goals as goal

pub loop-edge-preserved : goal.loop-edge-preserved
loop-edge-preserved c = (
  omega (arith, ints, c.crossing-sum.ensures.value, at_drop_more (wind c.args.q.now) c.args.edges.now c.loop-edge.edge-index (record { a = record { x = pos 0; y = pos 0 }; b = record { x = pos 0; y = pos 0 } }) (omega arith)),
  omega (arith, ints),
  omega (arith, ints),
)
