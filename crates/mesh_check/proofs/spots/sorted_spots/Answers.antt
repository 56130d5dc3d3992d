use Rattle.std.proofs.Common.{arith}
use Rattle.mesh_check.proofs.SpotOrder.{spots_sorted}
use Rattle.mesh_check.proofs.spots.sorted_spots.Goals as goal

pub returns : goal.returns
returns c = spots_sorted c.args.points.now c.loop-index.spots.items c.sort_unstable.new.self.items c.loop-index.index c.loop-index.invariant (omega arith) (omega arith) c.sort_unstable.ensures.permutation c.sort_unstable.ensures.sorted
