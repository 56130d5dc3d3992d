use mathlib.Core.Bool.{true≢false}
use Rattle.std.proofs.Common.{subst, sym, ◌∙◌}
use Rattle.rule_maps.specs.Frame.{IsInRange}
use Rattle.rule_match.proofs.Gathered.{at_itself, none_leave, out_of_range}
use Rattle.rule_match.proofs.NotesMade.{end_listed}
use Rattle.rule_match.proofs.around.add_lines_of.Goals as goal

-- the point is listed, since it is an end of a line
pub point-at-requires : goal.point-at-requires
point-at-requires c = end_listed _ c.args.front.now.lines c.args.number c.points-points.ensures.holds.numbered.lines_listed (sym c.is_front_point.ensures ∙ c.if-not-is_front_point.false)

-- no line begins at a point that is no end of one
pub returns-then-not-is_front_point-clause-all : goal.returns-then-not-is_front_point-clause-all
returns-then-not-is_front_point-clause-all c = none_leave c.args.front.now c.args.frame.now c.args.lines.now.items c.args.number (sym c.is_front_point.ensures ∙ c.if-not-is_front_point.true)

pub returns-then-not-is_in_range-clause-all : goal.returns-then-not-is_in_range-clause-all
returns-then-not-is_in_range-clause-all c = out_of_range c.args.front.now c.args.frame.now c.args.lines.now.items c.args.number
    (subst (λ p. ¬ (IsInRange c.args.frame.now p)) c.point-at.ensures.value (λ r. true≢false (sym (c.is_in_range.ensures.1 r) ∙ c.if-not-is_in_range.true)))

pub returns-clause-all : goal.returns-clause-all
returns-clause-all c = c.in_ok-add_lines.ensures.all c.args.number (at_itself c.point-at.result _ c.point-at.ensures.value)
