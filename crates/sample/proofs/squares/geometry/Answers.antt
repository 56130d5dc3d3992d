use Rattle.std.proofs.Common.{subst, IfOk}
use Rattle.geom_check.specs.Geometry.{IsGeometryOf}
use Rattle.sample.proofs.Filed.{is_readable, memory_alone, has_unit}
use Rattle.sample.proofs.squares.geometry.Goals as goal

pub check-requires : goal.check-requires
check-requires c = is_readable c.args.n c.in_ok-rows.rows c.requires.least c.requires.greatest c.in_ok-rows.ensures

pub returns-clause-refused : goal.returns-clause-refused
returns-clause-refused c = memory_alone c.args.n c.in_ok-rows.rows c.check.result c.requires.least c.requires.greatest c.in_ok-rows.ensures c.check.ensures.refused

pub returns-clause-unit : goal.returns-clause-unit
returns-clause-unit c = has_unit c.args.n c.check.result c.requires.greatest (subst (λ raw. IfOk c.check.result (IsGeometryOf raw)) c.in_ok-rows.ensures c.check.ensures.accepted)
