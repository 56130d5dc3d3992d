use Rattle.std.proofs.Common.{◌≡◌, ◌∙◌, sym, ap, nat_eq, is_some, Some}
use Rattle.std.specs.List.{find, list_any, after_first}
use Rattle.std.specs.Option.{option_map, option_copied}
use Rattle.indexmap.specs.IndexMap.{get}
use Rattle.digital_tree.specs.Entries.{key_of, has_key, is_hit}
use Rattle.front_chain.specs.Boxes.{line_of, has_line}
use Rattle.front_chain.proofs.Entries.{key_there, after_key, next_met, none_met, some_copied}
use Rattle.front_chain.proofs.walk.Walk.next.Goals as goal

pub unwrap-here-requires : goal.unwrap-here-requires
unwrap-here-requires c = some_copied c.get.result (ap is_some c.get.ensures.value ∙ key_there c.args.after c.self.invariant.0 (ap (λ v. list_any (has_line c.args.after) v.entries) c.self.view_is ∙ c.requires))

pub returns-in-None : goal.returns-in-None
returns-in-None c =
    let here : get nat_eq c.self.inside.keys c.args.after ≡ Some c.unwrap-here.result.now = sym c.get.ensures.value ∙ ap option_copied c.unwrap-here.ensures in
    let met = c.next_hit.ensures ∙ ap (λ es. option_map key_of (find (is_hit c.args.b.now) es)) (after_key c.args.after c.self.invariant.0 c.unwrap-here.result.now here) in
    sym (none_met _ (sym met ∙ c.in-None.is)) ∙ ap (λ v. option_map line_of (find (is_hit c.args.b.now) (after_first (has_line c.args.after) v.entries))) c.self.view_is

pub returns-in-Some : goal.returns-in-Some
returns-in-Some c =
    let here : get nat_eq c.self.inside.keys c.args.after ≡ Some c.unwrap-here.result.now = sym c.get.ensures.value ∙ ap option_copied c.unwrap-here.ensures in
    let met = c.next_hit.ensures ∙ ap (λ es. option_map key_of (find (is_hit c.args.b.now) es)) (after_key c.args.after c.self.invariant.0 c.unwrap-here.result.now here) in
    c.line_at.ensures ∙ ap (λ v. option_map line_of (find (has_key c.in-Some.key) v.entries)) (sym c.self.view_is)
    ∙ next_met c.self.inside.tree.entries c.self.invariant.0.different c.in-Some.key c.args.b.now (has_line c.args.after) (sym met ∙ c.in-Some.is)
    ∙ ap (λ v. option_map line_of (find (is_hit c.args.b.now) (after_first (has_line c.args.after) v.entries))) c.self.view_is
