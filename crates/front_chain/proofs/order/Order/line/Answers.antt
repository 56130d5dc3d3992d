use Rattle.std.proofs.Common.{rules, ◌≡◌, ◌∙◌, sym, ap, nat_eq}
use Rattle.std.specs.Option.{option_map, option_copied}
use Rattle.indexmap.specs.IndexMap.{get}
use Rattle.front_chain.specs.Front.{line_at}
use Rattle.front_chain.specs.Tables.{lines_from}
use Rattle.front_chain.proofs.Numbered.{link_ends, line_tabled}
use Rattle.front_chain.proofs.order.Order.line.Goals as goal

pub returns : goal.returns
returns c =
    let mapped : c.map.result ≡ option_map link_ends (option_copied c.get.result) = search rules in
    mapped ∙ ap (option_map link_ends) c.get.ensures.value ∙ sym (line_tabled (λ n. get nat_eq c.self.inside.links n) c.self.inside.count c.self.inside.first c.self.inside.last c.args.n c.self.invariant.0) ∙ ap (λ v. line_at (lines_from 1 v.made) c.args.n) c.self.view_is
