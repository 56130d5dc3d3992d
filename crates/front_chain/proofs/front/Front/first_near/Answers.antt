use Rattle.std.proofs.Common.{◌∙◌, ap, subst}
use Rattle.front_chain.specs.Front.{IsFrontState, is_near, first_in_walk, still_near}
use Rattle.front_chain.proofs.StillNear.{all_still}
use Rattle.front_chain.proofs.Walks.{found_near}
use Rattle.front_chain.proofs.front.Front.first_near.Goals as goal

pub returns-clause-near : goal.returns-clause-near
returns-clause-near c = found_near (is_near c.args.self.now c.args.b.now) c.args.self.now.walk c.met.result (c.met.ensures ∙ c.first_near.ensures ∙ ap (λ f. first_in_walk f c.args.b.now) c.self.view_is)

pub returns-clause-all : goal.returns-clause-all
returns-clause-all c = ap (still_near c.args.self.now c.args.b.now) (c.met.ensures ∙ c.first_near.ensures ∙ ap (λ f. first_in_walk f c.args.b.now) c.self.view_is)
    ∙ all_still c.args.self.now c.args.b.now (subst IsFrontState c.self.view_is c.self.invariant.0).walked
