use Rattle.std.proofs.lemmas.Result.{MatchResult-weaker, err_from_is_err_and}
use Rattle.netmesh_cli.specs.Taking.{geometry_at}
use Rattle.netmesh_cli.proofs.Firsts.{take_of_fetch, take_of_bytes}
use Rattle.netmesh_cli.proofs.Rejecting.{geometry_may}
use Rattle.netmesh_cli.proofs.geometry.take_geometry.Goals as goal

pub returns-in_err-bytes-clause-refused : goal.returns-in_err-bytes-clause-refused
returns-in_err-bytes-clause-refused g c =
    let p = err_from_is_err_and c.from_residual.result c.from_residual.ensures.1 in
    rw (p.1, p.2) (take_of_fetch _ _ _ (geometry_at c.args.name.now) c.in_err-bytes.ensures.refused)

pub returns-clause-refused : goal.returns-clause-refused
returns-clause-refused g c = MatchResult-weaker c.read_geometry.result c.read_geometry.ensures.refused (λ _ h. h)
    (λ r refused. take_of_bytes _ _ r (geometry_at c.args.name.now) c.in_ok-bytes.bytes.items c.deref.result.now c.deref.ensures.value c.in_ok-bytes.ensures.bytes (geometry_may _ _ r refused))
