use Rattle.std.proofs.Common.{arith}
use Rattle.geom_check.proofs.Rows.{known}
use Rattle.geom_check.proofs.placing.segments.Goals as goal

pub unwrap-requires : goal.unwrap-requires
unwrap-requires c = known _ _ _ _ c.copied.ensures c.get.ensures.value (c.in_ok-numbers.ensures _) (c.requires.readable c.loop-i.i _ (omega arith)).p_known

pub unwrap-requires-in-loop-i : goal.unwrap-requires-in-loop-i
unwrap-requires-in-loop-i c = known _ _ _ _ c.copied-in-loop-i.ensures c.get-in-loop-i.ensures.value (c.in_ok-numbers.ensures _) (c.requires.readable c.loop-i.i _ (omega arith)).q_known
