use Rattle.std.proofs.Common.{to_z, arith, ap, length}
use mir.Syntax.{w128}
use Rattle.netmesh_cli.proofs.Sweeps.{summed, one_more, more_within}
use Rattle.netmesh_cli.proofs.areas.double_area.Goals as goal

pub loop-segment-preserved : goal.loop-segment-preserved
loop-segment-preserved c = rw (summed (to_z w128 c.loop-segment.sum-bits) c.added-sum.result c.loop-segment.segment-index (omega (arith, c.loop-segment-test.true, ap length c.segments-segments.ensures.value, c.points-points.ensures.accepted.few_segments)) c.loop-segment.invariant.small c.added-sum.ensures.small) (record {
  ahead = one_more c.points-points.result.now c.args.domain c.segments-segments.result.now c.loop-segment.segment-index _ _ (to_z w128 c.loop-segment.sum-bits) c.added-sum.result c.loop-segment-test.true c.loop-segment.invariant.ahead c.added-sum.ensures.value;
  small = more_within (to_z w128 c.loop-segment.sum-bits) c.added-sum.result c.loop-segment.segment-index c.loop-segment.invariant.small c.added-sum.ensures.small;
})
