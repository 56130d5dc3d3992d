use Rattle.std.proofs.Common.{◌-◌, arith}
use Rattle.geom_check.proofs.Rows.{earlier_row}
use Rattle.geom_check.proofs.placing.row_numbers.Goals as goal

pub loop-i-preserved : goal.loop-i-preserved
loop-i-preserved c = λ number. earlier_row c.args.points.now (c.loop-i.i - 1) c.loop-i.i _ _ number _ _ (omega arith) (omega arith) (omega arith) (c.loop-i.invariant number) (c.in_ok-insert.ensures.updates.0 number)
