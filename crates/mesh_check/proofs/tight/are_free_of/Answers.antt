use Rattle.std.proofs.Common.{arith}
use Rattle.mesh_check.specs.Near.{IsFreeOf}
use Rattle.mesh_check.proofs.Prefixes.{each_more}
use Rattle.mesh_check.proofs.tight.are_free_of.Goals as goal

pub loop-point-preserved : goal.loop-point-preserved
loop-point-preserved c = each_more (IsFreeOf c.args.tree.now.entries) c.args.points.now c.loop-point.point-index _ c.loop-point-test.true (c.in_ok-is_free.ensures c.if-not-branch.false) c.loop-point.invariant

pub returns : goal.returns
returns c = λ t k d l. c.loop-point.invariant k d (omega (arith, l))
