use Rattle.std.proofs.Common.{◌∙◌, sym, ap, length}
use Rattle.std.proofs.lemmas.Map.Entries.{length-values_of}
use Rattle.front_chain.proofs.Walks.{walk_is, walk_length}
use Rattle.front_chain.proofs.chain.Chain.lines.Goals as goal

pub returns : goal.returns
returns c = c.len.ensures.len ∙ sym (length-values_of c.self.inside.sides.entries) ∙ walk_length _ c.self.inside.order.made (walk_is c.self.inside.order.made c.self.inside.sides.entries c.self.invariant.0 c.self.invariant.1) ∙ ap (λ v. length v.lines) c.self.view_is
