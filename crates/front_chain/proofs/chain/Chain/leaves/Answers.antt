use Rattle.std.proofs.Common.{◌∙◌, ap, nat_eq}
use Rattle.std.specs.List.{list_any}
use Rattle.front_chain.specs.Tables.{is_positive}
use Rattle.front_chain.proofs.Above.{positive_leaves}
use Rattle.front_chain.proofs.chain.Chain.leaves.Goals as goal

pub returns : goal.returns
returns c = c.is_left.ensures ∙ ap (λ ks. is_positive ks c.args.n) c.deref.ensures.value ∙ positive_leaves c.self.invariant.0 c.args.n ∙ ap (λ v. list_any (λ line. nat_eq line.1 c.args.n) v.lines) c.self.view_is
