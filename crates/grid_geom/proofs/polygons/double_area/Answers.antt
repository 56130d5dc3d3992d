use lib.ListN.{length, take, drop}
use Prim.Native.Nat.{◌-◌}
use mathlib.Core.Path.{sym, ◌∙◌}
use mir.Val.{to_z}
use mir.Syntax.{w128}
use Rattle.std.proofs.lemmas.List.Elements.{All-get_or, All-take, All-drop}
use Rattle.grid_geom.specs.Bounds.{IsOnGrid}
use Rattle.grid_geom.proofs.WayRound.{sum_ahead, stepped, more_within, rest_below, add_first, swept_first, last_ahead, rest_end, last_sum}
use Rattle.grid_geom.proofs.polygons.double_area.Goals as goal

pub loop-to-preserved : goal.loop-to-preserved
loop-to-preserved c = rw (stepped (to_z w128 c.loop-to.sum-bits) c.swept.result c.loop-to.to-index (rest_below c.args.corners.now c.loop-to.to-index c.requires.few c.loop-to-test.true) c.loop-to.invariant.small c.swept.ensures.small) (record {
  from_on = All-get_or IsOnGrid (take (length c.args.corners.now - 1) (drop 1 c.args.corners.now)) c.loop-to.to-index _ c.loop-to-test.true (All-take IsOnGrid _ _ (All-drop IsOnGrid 1 c.args.corners.now c.requires.corners_on));
  ahead = add_first (to_z w128 c.loop-to.sum-bits) c.swept.result _
      (c.loop-to.invariant.ahead ∙ swept_first (to_z w128 c.loop-to.sum-bits) c.swept.result _ c.swept.ensures.value (sum_ahead _ c.loop-to.from _ (take (length c.args.corners.now - 1) (drop 1 c.args.corners.now)) c.loop-to.to-index c.loop-to-test.true));
  small = more_within (to_z w128 c.loop-to.sum-bits) c.swept.result c.loop-to.to-index c.loop-to.invariant.small c.swept.ensures.small;
})

pub returns-after-loop-to : goal.returns-after-loop-to
returns-after-loop-to c = stepped (to_z w128 c.loop-to.sum-bits) c.swept-in-len1-up.result c.loop-to.to-index (rest_end c.args.corners.now c.loop-to.to-index c.requires.few c.loop-to.auto.to-index-end) c.loop-to.invariant.small c.swept-in-len1-up.ensures.small
    ∙ sym (c.loop-to.invariant.ahead ∙ last_sum (to_z w128 c.loop-to.sum-bits) c.swept-in-len1-up.result c.swept-in-len1-up.ensures.value (last_ahead _ c.loop-to.from (take (length c.args.corners.now - 1) (drop 1 c.args.corners.now)) c.loop-to.to-index c.loop-to-test.false))
