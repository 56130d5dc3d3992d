use Rattle.std.proofs.Common.{◌∙◌, sym, subst}
use Rattle.std.proofs.lemmas.Int.{to_z-of_z}
use mir.Val.{SFits}
use mir.Syntax.{w128}
use Rattle.admission.proofs.Views.{view_begins}
use Rattle.admission.proofs.admitting.view_of.Goals as goal

pub returns-clause-kept : goal.returns-clause-kept
returns-clause-kept c =
    let f : SFits w128 c.area.result = record { sfits = c.area.type_inv } in
    let back = to_z-of_z w128 c.area.result f in
    view_begins c.args.front.now c.args.made.now c.args.near.now _ c.area.ensures.holds c.requires.made_on c.requires.new_places c.in_ok-lines.ensures c.next_number.ensures (back ∙ c.area.ensures.value) (subst (SFits w128) (sym back) f) c.new.ensures.items
