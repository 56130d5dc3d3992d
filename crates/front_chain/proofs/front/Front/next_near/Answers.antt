use Rattle.std.proofs.Common.{◌∙◌, ◌∷◌, ap, subst, nat_eq}
use Rattle.std.specs.List.{after_first}
use Rattle.front_chain.specs.Front.{IsFrontState, is_near, next_in_walk, still_near}
use Rattle.front_chain.proofs.StillNear.{rest_still}
use Rattle.front_chain.proofs.Walks.{found_near}
use Rattle.front_chain.proofs.front.Front.next_near.Goals as goal

pub returns-clause-near : goal.returns-clause-near
returns-clause-near c = found_near (is_near c.args.self.now c.args.b.now) (after_first (nat_eq c.args.after.now.line) c.args.self.now.walk) c.met.result
    (c.met.ensures ∙ c.next_near.ensures ∙ ap (λ f. next_in_walk f c.args.b.now c.args.after.now.line) c.self.view_is)

pub returns-clause-rest : goal.returns-clause-rest
returns-clause-rest c = ap (λ o. c.args.after.now.line ∷ still_near c.args.self.now c.args.b.now o) (c.met.ensures ∙ c.next_near.ensures ∙ ap (λ f. next_in_walk f c.args.b.now c.args.after.now.line) c.self.view_is)
    ∙ rest_still c.args.self.now c.args.b.now c.args.after.now.line (subst IsFrontState c.self.view_is c.self.invariant.0).walked
