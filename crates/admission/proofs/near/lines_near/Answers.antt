use Rattle.std.proofs.Common.{◌∙◌, ap, map, arith}
use Rattle.admission.specs.Around.{drawn_at}
use Rattle.std.proofs.lemmas.List.{take_all}
use Rattle.admission.proofs.NearWalk.{near_drawn}
use Rattle.admission.proofs.near.lines_near.Goals as goal

pub returns : goal.returns
returns c = c.loop-n.invariant ∙ ap (map (drawn_at c.args.front.now)) (take_all c.loop-n.n-index c.deref-n-items.result.now (omega (arith, c.loop-n-test.false)) ∙ c.deref-n-items.ensures.value ∙ c.in_ok-numbers.ensures.value) ∙ near_drawn c.args.front.now c.args.near.now c.lines-lines.ensures.holds
