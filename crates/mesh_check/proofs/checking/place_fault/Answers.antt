use Rattle.std.proofs.Common.{subst}
use Rattle.geom_check.specs.Accepted.{ArePlacesDifferent}
use Rattle.mesh_check.proofs.Seen.{if_none}
use Rattle.mesh_check.proofs.checking.place_fault.Goals as goal

pub returns-in_err-i-clause-none : goal.returns-in_err-i-clause-none
returns-in_err-i-clause-none c = if_none (ArePlacesDifferent c.args.m.now.points) c.from_residual.result (subst ArePlacesDifferent c.as_slice.ensures c.in_err-i.ensures.none)
