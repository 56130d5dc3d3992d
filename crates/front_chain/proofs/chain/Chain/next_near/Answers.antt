use Rattle.std.proofs.Common.{◌∙◌, sym, ap, subst, IsTrue}
use Rattle.front_chain.specs.Front.{is_near, next_in_walk}
use Rattle.front_chain.proofs.Boxed.{next_near, near_there}
use Rattle.front_chain.proofs.chain.Chain.next_near.Goals as goal

pub next-requires : goal.next-requires
next-requires c = near_there c.args.b.now c.self.invariant.2 c.args.after (subst (λ f. IsTrue (is_near f c.args.b.now c.args.after)) (sym c.self.view_is) c.requires)

pub returns : goal.returns
returns c = c.next.ensures ∙ next_near c.args.b.now c.self.invariant.2 c.args.after ∙ ap (λ f. next_in_walk f c.args.b.now c.args.after) c.self.view_is
