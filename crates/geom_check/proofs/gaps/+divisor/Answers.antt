use Rattle.geom_check.proofs.Divisors.{divisor_zero, divisor_step}
use Rattle.geom_check.proofs.gaps.+divisor.Goals as goal

pub returns-then-b-eq0 : goal.returns-then-b-eq0
returns-then-b-eq0 t c = divisor_zero c.args.a c.args.b c.if-b-eq0.true

pub returns-else-b-eq0 : goal.returns-else-b-eq0
returns-else-b-eq0 t c = divisor_step c.args.a c.args.b c.divisor.result c.divisor.ensures
