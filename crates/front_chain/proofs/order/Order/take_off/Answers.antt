use Rattle.std.proofs.Common.{ℕ, ◌≡◌, ◌∙◌, ◌-◌, sym, ap, subst, nat_eq, set, cond, is_some, Some, None}
use Rattle.std.specs.Option.{option_map}
use Rattle.indexmap.specs.IndexMap.{get}
use Rattle.front_chain.specs.declared.order.Link.{Link}
use Rattle.front_chain.specs.Tables.{side_at}
use Rattle.front_chain.specs.Links.{followed_by, led_by, sides_in, AreLinked}
use Rattle.front_chain.proofs.Neighbours.{Table, some_map, after_leaving, links_left, sides_left, first_noted, last_noted}
use Rattle.front_chain.proofs.Numbered.{made_tabled, tabled_less}
use Rattle.front_chain.proofs.order.Order.take_off.Goals as goal
use Rattle.front_chain.proofs.order.Order.take_off.Goals.{After-swap_remove, After-unwrap-link, After-set_before}

abbrev before : After-set_before → Table
before c n = get nat_eq c.self.inside.links n

there : (c : After-set_before) → before c c.args.n ≡ Some c.unwrap-link.result
there c = sym c.swap_remove.ensures.value ∙ c.unwrap-link.ensures

-- the table after the two notes
noted_after : (c : After-set_before) (q : ℕ) → get nat_eq c.set_before.new.links q ≡ after_leaving (before c) c.args.n c.unwrap-link.result q
noted_after c q = c.set_before.ensures.links q ∙ ap (option_map (led_by c.unwrap-link.result.after c.unwrap-link.result.before q)) (c.set_after.ensures.links q ∙ ap (option_map (followed_by c.unwrap-link.result.before c.unwrap-link.result.after q)) (c.swap_remove.ensures.updates.0 q))

first_is : (c : After-set_before) → c.set_after.new.first ≡ cond (nat_eq c.unwrap-link.result.before 0) c.unwrap-link.result.after c.self.inside.first
first_is c = c.set_after.ensures.first ∙ ap (λ o. cond (is_some o) c.self.inside.first c.unwrap-link.result.after) (c.swap_remove.ensures.updates.0 c.unwrap-link.result.before)
    ∙ first_noted (before c) c.self.inside.count c.self.inside.first c.self.inside.last c.args.n c.unwrap-link.result c.self.invariant.0 (there c)

last_is : (c : After-set_before) → c.set_before.new.last ≡ cond (nat_eq c.unwrap-link.result.after 0) c.unwrap-link.result.before c.self.inside.last
last_is c =
    let link = c.unwrap-link.result in
    c.set_before.ensures.last ∙ ap (λ b. cond b c.self.inside.last link.before) (ap is_some (c.set_after.ensures.links link.after) ∙ some_map (followed_by link.before link.after link.after) _ ∙ ap is_some (c.swap_remove.ensures.updates.0 link.after))
    ∙ last_noted (before c) c.self.inside.count c.self.inside.first c.self.inside.last c.args.n link c.self.invariant.0 (there c)

pub unwrap-link-requires : goal.unwrap-link-requires
unwrap-link-requires c = ap is_some c.swap_remove.ensures.value ∙ made_tabled (λ n. get nat_eq c.self.inside.links n) c.self.inside.count c.args.n c.requires.positive (ap (λ v. is_some (side_at v.made (c.args.n - 1))) c.self.view_is ∙ c.requires.there)

pub invariant_of-self : goal.invariant_of-self
invariant_of-self c = (
  subst (λ (t : Table). AreLinked t c.self.inside.count c.set_after.new.first c.set_before.new.last) (λ i q. sym (noted_after c q) i)
      (links_left (before c) c.self.inside.count c.self.inside.first c.self.inside.last c.args.n c.unwrap-link.result c.self.invariant.0 (there c) c.set_after.new.first c.set_before.new.last (first_is c) (last_is c)),
  c.set_before.ensures.unique,
  c.self.invariant.2,
)

pub returns-clause-made : goal.returns-clause-made
returns-clause-made c = tabled_less (sides_in (before c)) (sides_in (λ q. get nat_eq c.set_before.new.links q)) c.self.inside.count c.args.n c.requires.positive (c.self.invariant.0.within c.args.n (ap is_some (there c))).1
    (λ q. ap (option_map (λ (l : Link). l.side)) (noted_after c q) ∙ sides_left (before c) c.args.n c.unwrap-link.result q) ∙ ap (λ v. set v.made (c.args.n - 1) None) c.self.view_is
