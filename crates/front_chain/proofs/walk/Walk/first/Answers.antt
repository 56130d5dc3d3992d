use Rattle.std.proofs.Common.{◌∙◌, sym, ap}
use Rattle.std.specs.List.{find}
use Rattle.std.specs.Option.{option_map}
use Rattle.digital_tree.specs.Entries.{has_key, is_hit}
use Rattle.front_chain.specs.Boxes.{line_of}
use Rattle.front_chain.proofs.Entries.{first_met}
use Rattle.front_chain.proofs.walk.Walk.first.Goals as goal

pub returns-in-Some : goal.returns-in-Some
returns-in-Some c =
    c.line_at.ensures ∙ ap (λ v. option_map line_of (find (has_key c.in-Some.key) v.entries)) (sym c.self.view_is)
    ∙ first_met c.self.inside.tree.entries c.self.invariant.0.different c.in-Some.key c.args.b.now (sym c.first_hit.ensures ∙ c.in-Some.is)
    ∙ ap (λ v. option_map line_of (find (is_hit c.args.b.now) v.entries)) c.self.view_is
