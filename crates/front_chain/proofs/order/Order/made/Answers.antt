use Rattle.std.proofs.Common.{◌∙◌, sym, ap, length, nat_eq}
use Rattle.indexmap.specs.IndexMap.{get}
use Rattle.front_chain.specs.Links.{sides_in}
use Rattle.front_chain.proofs.Numbered.{length_tabled}
use Rattle.front_chain.proofs.order.Order.made.Goals as goal

pub returns-clause-count : goal.returns-clause-count
returns-clause-count c = sym (length_tabled (sides_in (λ n. get nat_eq c.self.inside.links n)) c.self.inside.count) ∙ ap (λ v. length v.made) c.self.view_is
