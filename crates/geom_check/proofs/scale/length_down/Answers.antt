use Rattle.std.proofs.Common.{arith}
use Rattle.geom_check.proofs.Powers.{shrinks_shortest, power_most, power_least}
use Rattle.geom_check.proofs.scale.length_down.Goals as goal

pub returns-then-exponent-gt31 : goal.returns-then-exponent-gt31
returns-then-exponent-gt31 c = omega (arith, shrinks_shortest c.args.size c.args.exponent c.requires (omega arith))

pub pow-requires : goal.pow-requires
pow-requires c = omega (arith, power_most c.args.exponent (omega arith))

pub nonzero_div-size : goal.nonzero_div-size
nonzero_div-size c = omega (arith, power_least c.args.exponent)
