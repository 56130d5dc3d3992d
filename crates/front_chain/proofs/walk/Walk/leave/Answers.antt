use Rattle.std.proofs.Common.{◌≡◌, sym, ap, ◌∙◌, subst, nat_eq, is_some, Some, OnSome}
use Rattle.indexmap.specs.IndexMap.{get}
use Rattle.std.specs.List.{list_any}
use Rattle.digital_tree.specs.Entries.{IsRemoved}
use Rattle.front_chain.specs.Boxes.{has_line, IsLeft}
use Rattle.front_chain.proofs.Entries.{key_there, key_stands, key_left, keyed_left, some_held}
use Rattle.front_chain.proofs.walk.Walk.leave.Goals as goal

pub unwrap-key-requires : goal.unwrap-key-requires
unwrap-key-requires c = ap is_some c.swap_remove.ensures.value ∙ key_there c.args.line c.self.invariant.0 (ap (λ v. list_any (has_line c.args.line) v.entries) c.self.view_is ∙ c.requires.there)

pub unwrap-requires : goal.unwrap-requires
unwrap-requires c =
    let here : get nat_eq c.self.inside.keys c.args.line ≡ Some c.unwrap-key.result = sym c.swap_remove.ensures.value ∙ c.unwrap-key.ensures in
    ap is_some c.remove.ensures.value ∙ some_held _ (key_stands c.args.line c.self.invariant.0 c.unwrap-key.result here)

pub invariant_of-self : goal.invariant_of-self
invariant_of-self c =
    let here : get nat_eq c.self.inside.keys c.args.line ≡ Some c.unwrap-key.result = sym c.swap_remove.ensures.value ∙ c.unwrap-key.ensures in
    let removed = subst (λ r. OnSome r (IsRemoved c.unwrap-key.result c.self.inside.tree.entries c.remove.new.self.entries)) c.unwrap.ensures c.remove.ensures.removed in
    (keyed_left c.args.line c.self.invariant.0 (key_left c.args.line c.self.invariant.0 c.unwrap-key.result here removed) c.swap_remove.ensures.updates.0, c.swap_remove.ensures.unique)

pub returns-clause-left : goal.returns-clause-left
returns-clause-left c =
    let here : get nat_eq c.self.inside.keys c.args.line ≡ Some c.unwrap-key.result = sym c.swap_remove.ensures.value ∙ c.unwrap-key.ensures in
    let removed = subst (λ r. OnSome r (IsRemoved c.unwrap-key.result c.self.inside.tree.entries c.remove.new.self.entries)) c.unwrap.ensures c.remove.ensures.removed in
    subst (λ v. IsLeft c.args.line v.entries c.remove.new.self.entries) c.self.view_is (key_left c.args.line c.self.invariant.0 c.unwrap-key.result here removed)
