use Rattle.std.proofs.lemmas.Result.{err_from_is_err_and}
use Rattle.netmesh_cli.proofs.Making.{rules_refused}
use Rattle.netmesh_cli.proofs.rules.make_rules.Goals as goal

pub returns-in_err-rules-clause-refused : goal.returns-in_err-rules-clause-refused
returns-in_err-rules-clause-refused g c =
    let p = err_from_is_err_and c.from_residual.result c.from_residual.ensures.1 in
    rw (p.1, p.2) (rules_refused c.args.name.now _ _ _ c.in_err-rules.ensures.refused)
