use Rattle.mesh_check.specs.Near.{IsInBounds}
use Rattle.mesh_check.proofs.Prefixes.{each_more}
use Rattle.mesh_check.proofs.near.box_of.Goals as goal

pub loop-corner-preserved : goal.loop-corner-preserved
loop-corner-preserved c = each_more (IsInBounds c.extended-bounds.result) c.args.corners.now c.loop-corner.corner-index _ c.loop-corner-test.true c.extended-bounds.ensures.holds (λ k d l. c.extended-bounds.ensures.keeps _ (c.loop-corner.invariant k d l))
