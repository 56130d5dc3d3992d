use Rattle.std.proofs.Common.{arith, inl, inr}
use Rattle.geom_check.specs.Risers.{is_chosen}
use Rattle.geom_check.proofs.Walks.{walk_more}
use Rattle.geom_check.proofs.strips.faulty.Goals as goal
use Rattle.geom_check.proofs.strips.faulty.Goals.{else-easts-wests-via-then-easts-wests+else-easts-wests-2, else-easts-wests-via-else-easts-wests}

pub loop-j-preserved : goal.loop-j-preserved
loop-j-preserved c = walk_more (is_chosen c.args.chosen) c.args.passing.now c.loop-j.j _ c.loop-j.easts c.loop-j.wests c.counts-easts.result c.counts-wests.result (omega arith) c.loop-j.invariant c.counts-easts.ensures.value c.counts-wests.ensures.value c.counts-easts.ensures.small c.counts-wests.ensures.small
    (elim c.else-easts-wests.branch [
      | else-easts-wests-via-then-easts-wests+else-easts-wests-2 w ↦ inr (omega (arith, w.if-easts-wests-2.false))
      | else-easts-wests-via-else-easts-wests w ↦ inl (omega (arith, w.if-easts-wests.false))
    ])
