use lib.ListN.{length, take, drop}
use Prim.Native.Nat.{◌-◌}
use mathlib.Core.Path.{sym, ◌∙◌}
use Rattle.std.proofs.lemmas.List.Elements.{All-get_or, All-take, All-drop}
use Rattle.grid_geom.specs.Bounds.{IsOnGrid}
use Rattle.grid_geom.specs.Polygon.{is_outside}
use Rattle.grid_geom.proofs.WayRound.{any_ahead}
use Rattle.grid_geom.proofs.polygons.outside_a_side.Goals as goal

pub loop-to-preserved : goal.loop-to-preserved
loop-to-preserved c = record {
  from_on = All-get_or IsOnGrid (take (length c.args.corners.now - 1) (drop 1 c.args.corners.now)) c.loop-to.to-index _ c.loop-to-test.true (All-take IsOnGrid _ _ (All-drop IsOnGrid 1 c.args.corners.now c.requires.corners_on));
  ahead = c.loop-to.invariant.ahead ∙ any_ahead (is_outside c.args.a c.args.b) _ c.loop-to.from _ (take (length c.args.corners.now - 1) (drop 1 c.args.corners.now)) c.loop-to.to-index c.loop-to-test.true (sym c.outside.ensures ∙ c.if-outside.false);
}
