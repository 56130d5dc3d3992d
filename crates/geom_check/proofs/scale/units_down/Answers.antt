use Rattle.std.proofs.Common.{arith, sym}
use Rattle.geom_check.proofs.Powers.{shrinks_away, power_most, power_least}
use Rattle.geom_check.proofs.scale.units_down.Goals as goal

pub returns-then-exponent-gt31-clause-fits : goal.returns-then-exponent-gt31-clause-fits
returns-then-exponent-gt31-clause-fits c = sym (shrinks_away c.args.size c.args.exponent c.requires (omega arith))

pub pow-divisor-requires : goal.pow-divisor-requires
pow-divisor-requires c = omega (arith, power_most c.args.exponent (omega arith))

pub overflow_add-rounded : goal.overflow_add-rounded
overflow_add-rounded c = omega (arith, power_most c.args.exponent (omega arith))

pub overflow_mul-rounded-2 : goal.overflow_mul-rounded-2
overflow_mul-rounded-2 c = omega (arith, power_most c.args.exponent (omega arith))

pub nonzero_div-rounded : goal.nonzero_div-rounded
nonzero_div-rounded c = omega (arith, power_least c.args.exponent)
