use Rattle.std.proofs.Common.{arith}
use Rattle.geom_check.proofs.Untangled.{free_more}
use Rattle.geom_check.proofs.spans.are_free.Goals as goal

pub loop-i-preserved : goal.loop-i-preserved
loop-i-preserved c = free_more c.args.spans.now c.loop-i.i (c.is_tangled.ensures c.if-is_tangled.false) c.loop-i.invariant

pub returns : goal.returns
returns c = λ e i j d h l. c.loop-i.invariant i (omega arith) j d h l
