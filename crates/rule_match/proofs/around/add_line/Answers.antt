use Rattle.std.proofs.Common.{◌∙◌, sym, subst, length}
use Rattle.rule_maps.specs.Frame.{IsInRange}
use Rattle.state_law.specs.State.{IsListed}
use Rattle.admission.proofs.Ahead.{line_fact}
use Rattle.rule_match.proofs.Gathered.{added}
use Rattle.rule_match.proofs.around.add_line.Goals as goal

pub point-requires : goal.point-requires
point-requires c = (line_fact (λ s. IsListed (length c.args.front.now.points) s.0 × IsListed (length c.args.front.now.points) s.1) c.args.front.now.lines c.args.number c.unwrap-ends.result c.points-points.ensures.holds.numbered.lines_listed (sym c.line.ensures ∙ c.unwrap-ends.ensures)).0

pub returns-in_ok-push : goal.returns-in_ok-push
returns-in_ok-push c = added c.args.front.now c.args.frame.now c.args.number c.args.lines.now.items c.push.new.self.items c.unwrap-ends.result (sym c.line.ensures ∙ c.unwrap-ends.ensures) c.in_ok-push.ensures.items
    (subst (IsInRange c.args.frame.now) c.point.ensures.value (c.is_in_range.ensures.0 c.if-is_in_range.true))
