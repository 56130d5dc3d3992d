use Rattle.std.proofs.Common.{arith}
use Rattle.geom_check.proofs.Powers.{grows_longest}
use Rattle.geom_check.proofs.scale.length_up.Goals as goal

pub returns-then-exponent-gt5 : goal.returns-then-exponent-gt5
returns-then-exponent-gt5 c = grows_longest c.args.size c.args.exponent (omega arith) (omega arith)
