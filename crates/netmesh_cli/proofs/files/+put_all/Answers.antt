use Rattle.std.proofs.lemmas.Result.{MatchResult-weaker, err_from_is_err_and}
use Rattle.netmesh_cli.proofs.Puts.{puts_first_at, puts_later_at}
use Rattle.netmesh_cli.proofs.files.+put_all.Goals as goal

pub returns-in_err-put-in-len1-up-clause-refused : goal.returns-in_err-put-in-len1-up-clause-refused
returns-in_err-put-in-len1-up-clause-refused g n c =
    let p = err_from_is_err_and c.from_residual.result c.from_residual.ensures.1 in
    rw (p.1, p.2) (puts_first_at c.args.puts.now c.first-item.result c.in-len1-up.len_at_least c.first-item.is _ _ _ c.in_err-put-in-len1-up.ensures.others c.in_err-put-in-len1-up.ensures.refused)

pub returns-in_ok-put-in-len1-up-clause-refused : goal.returns-in_ok-put-in-len1-up-clause-refused
returns-in_ok-put-in-len1-up-clause-refused g n c = MatchResult-weaker c.put_all.result c.put_all.ensures.refused (λ _ h. h)
    (λ r refused. puts_later_at c.args.puts.now c.first-item.result c.in-len1-up.len_at_least c.first-item.is c.deref.result.now c.deref.ensures.value _ _ _ r c.in_ok-put-in-len1-up.ensures.put c.put.ensures.rises refused)
