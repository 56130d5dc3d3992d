use Rattle.sample.proofs.Tables.{one_more}
use Rattle.sample.proofs.squares.all_across.Goals as goal

pub loop-k-preserved : goal.loop-k-preserved
loop-k-preserved c = one_more _ c.loop-k.k c.loop-k.rows.items c.push.new.self.items c.across.result c.loop-k.invariant c.in_ok-push.ensures.items c.across.ensures
