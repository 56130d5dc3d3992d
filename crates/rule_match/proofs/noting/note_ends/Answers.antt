use Rattle.std.proofs.Common.{◌∙◌, arith, sym, subst, length}
use Rattle.front_chain.specs.Front.{AreNear}
use Rattle.rule_match.proofs.Advances.{begins_chain}
use Rattle.rule_match.proofs.NotesMade.{at_place, end_listed, one_more, ends_told}
use Rattle.rule_match.proofs.noting.note_ends.Goals as goal

pub point-place-requires : goal.point-place-requires
point-place-requires c = end_listed (length c.front-front.result.now.points) c.front-front.result.now.lines c.args.point c.points-points.ensures.holds.numbered.lines_listed (sym c.is_front_point.ensures ∙ c.if-not-is_front_point.false)

pub loop-line-preserved : goal.loop-line-preserved
loop-line-preserved c = (
  begins_chain c.note_if_it_ends.new.notes.items c.loop-line.notes.items c.args.notes.now.items c.in_ok-note_if_it_ends.ensures.kept c.loop-line.invariant.0,
  λ noting. one_more c.args.base.now.front c.note_if_it_ends.new.notes.items c.loop-line.notes.items c.args.points.now c.args.point c.deref-line-items.result.now c.loop-line.line-index c.in_ok-note_if_it_ends.ensures.kept (c.loop-line.invariant.1 noting)
      (c.in_ok-note_if_it_ends.ensures.noted noting),
)

pub returns-clause-noted : goal.returns-clause-noted
returns-clause-noted c = λ noting. ends_told c.front-front.result.now c.args.base.now.front c.loop-line.notes.items c.args.points.now c.args.point c.point-place.result c.deref-line-items.result.now c.loop-line.line-index c.front-front.ensures.value c.points-points.ensures.holds
    c.point-place.ensures.value (subst (AreNear c.front-front.result.now (at_place c.point-place.result)) (sym c.deref-line-items.ensures.value) c.in_ok-lines.ensures.near) (omega (arith, c.loop-line-test.false)) (c.loop-line.invariant.1 noting)
