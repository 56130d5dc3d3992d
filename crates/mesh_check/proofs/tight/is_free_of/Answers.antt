use Rattle.std.proofs.Common.{arith}
use Rattle.mesh_check.proofs.Kept.{free_more, free_all}
use Rattle.mesh_check.proofs.tight.is_free_of.Goals as goal

pub loop-hit-preserved : goal.loop-hit-preserved
loop-hit-preserved c = free_more c.args.place c.args.hits.now c.loop-hit.hit-index _ c.loop-hit-test.true (λ o. let t = c.on_open.ensures.1 o in let f = c.if-on_open.false in absurd (cc)) c.loop-hit.invariant

pub returns : goal.returns
returns c = λ t. free_all c.args.place c.args.hits.now c.loop-hit.hit-index (omega arith) c.loop-hit.invariant
