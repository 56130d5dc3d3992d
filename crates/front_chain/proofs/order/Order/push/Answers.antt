use Rattle.std.proofs.Common.{ℕ, ◌≡◌, ◌∙◌, ◌+◌, ◌++◌, ◌∷◌, [], sym, ap, subst, nat_eq, cond, Some, OnOk}
use Rattle.std.specs.Option.{option_map}
use Rattle.indexmap.specs.IndexMap.{get, Updates}
use Rattle.front_chain.specs.declared.order.Link.{Link}
use Rattle.front_chain.specs.Links.{sides_in, AreLinked}
use Rattle.front_chain.proofs.Neighbours.{Table, new_link, after_joining, links_joined, sides_joined, first_joined}
use Rattle.front_chain.proofs.Numbered.{tabled_more, one_number_more}
use Rattle.front_chain.proofs.order.Order.push.Goals as goal

pub invariant_of-self : goal.invariant_of-self
invariant_of-self c =
    let before : Table = λ n. get nat_eq c.self.inside.links n in
    let number = c.self.inside.count + 1 in
    let put : Updates nat_eq c.set_after.new.links c.insert.new.self number (Some (new_link c.args.side c.self.inside.last)) = subst (λ r. OnOk r (Updates nat_eq c.set_after.new.links c.insert.new.self number (Some (new_link c.args.side c.self.inside.last)))) c.unwrap.ensures c.insert.ensures.updates in
    let now : (q : ℕ) → get nat_eq c.insert.new.self q ≡ after_joining before c.self.inside.last number c.args.side q = λ q. put.0 q ∙ ap (λ o. cond (nat_eq number q) (Some (new_link c.args.side c.self.inside.last)) o) (c.set_after.ensures.links q) in
    let first = c.set_after.ensures.first ∙ first_joined before c.self.inside.count c.self.inside.first c.self.inside.last c.args.side c.self.invariant.0 in (
      subst (λ (t : Table). AreLinked t number c.set_after.new.first number) (λ i q. sym (now q) i) (links_joined before c.self.inside.count c.self.inside.first c.self.inside.last c.args.side c.self.invariant.0 c.set_after.new.first first),
      c.insert.ensures.unique,
      one_number_more _ c.self.inside.count _ (ap (λ v. v.spare) c.self.view_is) c.requires,
    )

pub returns-clause-made : goal.returns-clause-made
returns-clause-made c =
    let before : Table = λ n. get nat_eq c.self.inside.links n in
    let number = c.self.inside.count + 1 in
    let put : Updates nat_eq c.set_after.new.links c.insert.new.self number (Some (new_link c.args.side c.self.inside.last)) = subst (λ r. OnOk r (Updates nat_eq c.set_after.new.links c.insert.new.self number (Some (new_link c.args.side c.self.inside.last)))) c.unwrap.ensures c.insert.ensures.updates in
    let now : (q : ℕ) → get nat_eq c.insert.new.self q ≡ after_joining before c.self.inside.last number c.args.side q = λ q. put.0 q ∙ ap (λ o. cond (nat_eq number q) (Some (new_link c.args.side c.self.inside.last)) o) (c.set_after.ensures.links q) in
    tabled_more (sides_in before) (sides_in (λ q. get nat_eq c.insert.new.self q)) c.self.inside.count c.args.side (λ q. ap (option_map (λ (l : Link). l.side)) (now q) ∙ sides_joined before c.self.inside.last number c.args.side q) ∙ ap (λ v. v.made ++ Some c.args.side ∷ []) c.self.view_is
