use Rattle.std.proofs.Common.{◌≡◌, sym, ap, ◌∙◌, get_or, arith}
use Rattle.netmesh_cli.proofs.States.{lines_next}
use Rattle.netmesh_cli.proofs.rules.state_lines.Goals as goal

pub loop-k-preserved : goal.loop-k-preserved
loop-k-preserved c =
    let r = c.get.result.now in
    let at : r ≡ get_or c.args.rules.now c.loop-k.k r = sym (ap (λ n. get_or c.args.rules.now n r) (omega arith) ∙ c.get.ensures r) in
    lines_next c.args.rules.now c.loop-k.k r c.loop-k.text.items c.push_state.new.text.items (omega (arith, c.loop-k-test.true, c.count-k-end.ensures)) at c.loop-k.invariant c.in_ok-push_state.ensures
