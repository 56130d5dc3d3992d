use Rattle.std.proofs.Common.{◌∙◌, ap, subst}
use Rattle.front_chain.specs.Front.{IsFrontState, near_in_walk}
use Rattle.front_chain.proofs.NearLines.{all_near, all_there}
use Rattle.front_chain.proofs.front.Front.near_lines.Goals as goal

pub returns-clause-near : goal.returns-clause-near
returns-clause-near c = all_near c.args.self.now c.args.b.now c.in_ok-numbers.numbers.items (subst IsFrontState c.self.view_is c.self.invariant.0)
    (c.in_ok-numbers.ensures ∙ ap (λ f. near_in_walk f c.args.b.now) c.self.view_is)

pub returns-clause-there : goal.returns-clause-there
returns-clause-there c = all_there c.args.self.now c.args.b.now c.in_ok-numbers.numbers.items
    (c.in_ok-numbers.ensures ∙ ap (λ f. near_in_walk f c.args.b.now) c.self.view_is)
