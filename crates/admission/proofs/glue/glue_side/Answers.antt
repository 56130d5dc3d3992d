use Rattle.std.proofs.Common.{◌∙◌, sym, ap}
use Rattle.std.specs.List.{position}
use Rattle.admission.specs.Around.{is_along}
use Rattle.admission.proofs.Sides.{lines_joined, next_joined, lines_left, next_left}
use Rattle.admission.proofs.glue.glue_side.Goals as goal

pub returns-in-Some-clause-lines : goal.returns-in-Some-clause-lines
returns-in-Some-clause-lines c = c.remove.ensures.items ∙ sym (lines_left c.args.lines.now.items c.args.next c.args.side.now c.in-Some.i (ap (position (is_along c.args.side.now)) (sym c.deref.ensures.value) ∙ sym c.place_of.ensures ∙ c.in-Some.is))

pub returns-in-Some-clause-next : goal.returns-in-Some-clause-next
returns-in-Some-clause-next c = sym (next_left c.args.lines.now.items c.args.next c.args.side.now c.in-Some.i (ap (position (is_along c.args.side.now)) (sym c.deref.ensures.value) ∙ sym c.place_of.ensures ∙ c.in-Some.is))

pub returns-in_ok-push-in-None-clause-lines : goal.returns-in_ok-push-in-None-clause-lines
returns-in_ok-push-in-None-clause-lines c = c.in_ok-push-in-None.ensures.items ∙ sym (lines_joined c.args.lines.now.items c.args.next c.args.side.now (ap (position (is_along c.args.side.now)) (sym c.deref.ensures.value) ∙ sym c.place_of.ensures ∙ c.in-None.is))

pub returns-in_ok-push-in-None-clause-next : goal.returns-in_ok-push-in-None-clause-next
returns-in_ok-push-in-None-clause-next c = sym (next_joined c.args.lines.now.items c.args.next c.args.side.now (ap (position (is_along c.args.side.now)) (sym c.deref.ensures.value) ∙ sym c.place_of.ensures ∙ c.in-None.is))
