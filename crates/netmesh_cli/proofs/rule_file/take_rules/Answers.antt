use Rattle.std.proofs.lemmas.Result.{MatchResult-weaker, err_from_is_err_and}
use Rattle.netmesh_cli.specs.Taking.{rule_file_at}
use Rattle.netmesh_cli.proofs.Firsts.{take_of_fetch, take_of_bytes}
use Rattle.netmesh_cli.proofs.Rejecting.{rules_may}
use Rattle.netmesh_cli.proofs.rule_file.take_rules.Goals as goal

pub returns-in_err-bytes-clause-refused : goal.returns-in_err-bytes-clause-refused
returns-in_err-bytes-clause-refused g c =
    let p = err_from_is_err_and c.from_residual.result c.from_residual.ensures.1 in
    rw (p.1, p.2) (take_of_fetch _ _ _ (rule_file_at c.args.name.now) c.in_err-bytes.ensures.refused)

pub returns-clause-refused : goal.returns-clause-refused
returns-clause-refused g c = MatchResult-weaker c.read_file.result c.read_file.ensures.refused (λ _ h. h)
    (λ r refused. take_of_bytes _ _ r (rule_file_at c.args.name.now) c.in_ok-bytes.bytes.items c.deref.result.now c.deref.ensures.value c.in_ok-bytes.ensures.bytes (rules_may _ _ r refused))
