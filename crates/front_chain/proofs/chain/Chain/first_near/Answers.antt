use Rattle.std.proofs.Common.{◌∙◌, ap}
use Rattle.front_chain.specs.Front.{first_in_walk}
use Rattle.front_chain.proofs.Boxed.{first_near}
use Rattle.front_chain.proofs.chain.Chain.first_near.Goals as goal

pub returns : goal.returns
returns c = c.first.ensures ∙ first_near c.args.b.now c.self.invariant.2 ∙ ap (λ f. first_in_walk f c.args.b.now) c.self.view_is
