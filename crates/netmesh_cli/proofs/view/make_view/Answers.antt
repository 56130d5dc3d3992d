use Rattle.std.proofs.lemmas.Result.{err_from_is_err_and}
use Rattle.netmesh_cli.proofs.Making.{view_refused}
use Rattle.netmesh_cli.proofs.view.make_view.Goals as goal

pub returns-in_err-state-clause-refused : goal.returns-in_err-state-clause-refused
returns-in_err-state-clause-refused g c =
    let p = err_from_is_err_and c.from_residual.result c.from_residual.ensures.1 in
    rw (p.1, p.2) (view_refused c.args.log.now c.args.domain c.args.step _ _ _ c.in_err-state.ensures.refused)
