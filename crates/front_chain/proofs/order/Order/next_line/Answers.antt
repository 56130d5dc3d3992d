use Rattle.std.proofs.Common.{◌≡◌, ◌∙◌, sym, ap, arith, nat_eq, Some}
use Rattle.std.specs.Option.{option_copied}
use Rattle.indexmap.specs.IndexMap.{get}
use Rattle.front_chain.specs.Front.{number_above}
use Rattle.front_chain.specs.Tables.{lines_from}
use Rattle.front_chain.proofs.Neighbours.{Table}
use Rattle.front_chain.proofs.Numbered.{above_tabled, ahead_next, beyond}
use Rattle.front_chain.proofs.order.Order.next_line.Goals as goal

pub returns-in-Some : goal.returns-in-Some
returns-in-Some c =
    let links : Table = λ n. get nat_eq c.self.inside.links n in
    let there : links c.args.after ≡ Some c.in-Some.link.now = sym c.get.ensures.value ∙ ap option_copied c.in-Some.is in
    let next = c.self.invariant.0.after_is c.args.after c.in-Some.link.now there in
    c.if_any.ensures ∙ above_tabled links c.self.inside.count c.self.inside.first c.self.inside.last c.args.after c.in-Some.link.now.after c.self.invariant.0 (ahead_next links c.args.after c.args.after c.in-Some.link.now.after next (omega arith)) (beyond links c.args.after c.in-Some.link.now.after next)
    ∙ ap (λ v. number_above (lines_from 1 v.made) c.args.after) c.self.view_is
