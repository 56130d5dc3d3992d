use Rattle.std.proofs.Common.{sym, arith}
use Rattle.vol_format.proofs.Divided.{lowered_too_far, pow_below, pow_some}
use Rattle.vol_format.proofs.coordinate.lowered.Goals as goal

pub returns-then-power-gt34 : goal.returns-then-power-gt34
returns-then-power-gt34 c = record { value = sym (lowered_too_far c.args.size c.args.power c.args.greatest c.if-size-eq0.false c.ranges.size.fits c.if-power-gt34.true); small = tt }

pub pow-requires : goal.pow-requires
pow-requires c = omega (arith, pow_below c.args.power c.if-power-gt34.false)

pub overflow_mul-pow : goal.overflow_mul-pow
overflow_mul-pow c = omega (arith, pow_below c.args.power c.if-power-gt34.false, c.pow.ensures)

pub divided-requires-2 : goal.divided-requires-2
divided-requires-2 c = omega (arith, pow_some c.args.power, c.pow.ensures)
