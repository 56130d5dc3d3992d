use Rattle.std.proofs.Common.{rules, arith}
use Rattle.std.proofs.lemmas.Int.{ints}
use Rattle.geom_check.proofs.Rows.{finer_fails}
use Rattle.geom_check.proofs.placing.finest.Goals as goal

pub loop-down-preserved : goal.loop-down-preserved
loop-down-preserved c = finer_fails c.args.rows.now c.loop-down.down _ _ (omega (arith, ints)) c.loop-down.invariant c.too_large.ensures.found (search rules)
