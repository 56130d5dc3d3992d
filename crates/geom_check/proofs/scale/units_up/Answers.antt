use Rattle.std.proofs.Common.{arith}
use Rattle.geom_check.proofs.Powers.{grows_past}
use Rattle.geom_check.proofs.scale.units_up.Goals as goal

pub returns-then-exponent-gt4-clause-too_large : goal.returns-then-exponent-gt4-clause-too_large
returns-then-exponent-gt4-clause-too_large c = grows_past c.args.size c.args.exponent (omega arith) (omega arith)
