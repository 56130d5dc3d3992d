use Rattle.std.proofs.Common.{sym, ap, ◌∙◌}
use Rattle.std.specs.Option.{option_flatten, option_copied}
use Rattle.digital_tree.proofs.Lists.{next_absent}
use Rattle.digital_tree.proofs.Keys.{kept_absent, kept_spot, next_flat}
use Rattle.digital_tree.proofs.tree.Tree.next_hit.Goals as goal

pub returns-in-None : goal.returns-in-None
returns-in-None g c =
    let absent = kept_absent _ _ c.args.after c.self.invariant (sym c.get.ensures ∙ ap option_copied c.in-None.is) in
    rw (← c.self.view_is) (sym (ap option_flatten (next_absent c.args.b.now _ _ absent)) ∙ next_flat c.args.b.now c.args.after c.self.inside.root)

pub returns-in-Some : goal.returns-in-Some
returns-in-Some g c =
    let spot = kept_spot _ _ c.args.after c.in-Some.field-0.now c.self.invariant (sym c.get.ensures ∙ ap option_copied c.in-Some.is) in
    rw (← c.self.view_is, c.flatten.ensures) (ap option_flatten (c.next_hit.ensures spot) ∙ next_flat c.args.b.now c.args.after c.self.inside.root)
