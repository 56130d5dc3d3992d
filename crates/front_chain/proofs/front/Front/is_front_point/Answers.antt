use Rattle.std.proofs.Common.{◌∙◌, ap}
use Rattle.front_chain.specs.Front.{is_end, state_of}
use Rattle.front_chain.proofs.Ends.{end_leaves}
use Rattle.front_chain.proofs.front.Front.is_front_point.Goals as goal

pub returns : goal.returns
returns c = c.leaves.ensures ∙ end_leaves (state_of c.self.inside.chain) c.args.n c.self.invariant.0.numbered c.self.invariant.0.region.closed ∙ ap (λ v. is_end v.lines c.args.n) c.self.view_is
