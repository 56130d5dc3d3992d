use Rattle.std.proofs.Common.{◌∙◌, ap}
use Rattle.front_chain.specs.Front.{near_in_walk}
use Rattle.front_chain.proofs.Boxed.{near_lines}
use Rattle.front_chain.proofs.chain.Chain.near_lines.Goals as goal

pub returns : goal.returns
returns c = c.in_ok-numbers.ensures ∙ near_lines c.args.b.now c.self.invariant.2 ∙ ap (λ f. near_in_walk f c.args.b.now) c.self.view_is
