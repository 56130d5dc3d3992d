use Rattle.std.proofs.Common.{arith}
use Rattle.mesh_check.proofs.Shelved.{elements_put, first_is}
use Rattle.mesh_check.proofs.shelves.put_elements.Goals as goal

pub loop-left-preserved : goal.loop-left-preserved
loop-left-preserved c = λ k h.
    elements_put k c.loop-left.left.now _ c.element-item.result c.as_slice.result.now _ _ _ (first_is c.loop-left.left.now c.element-item.result (omega (arith, c.in-len1-up.len_at_least)) c.element-item.is) c.as_slice.ensures
    (c.put_sides.ensures c.if-not-put_sides.false k h) (c.loop-left.invariant k h)
