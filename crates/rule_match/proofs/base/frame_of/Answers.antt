use Rattle.std.proofs.Common.{◌∙◌, sym}
use Rattle.rule_match.proofs.BaseLines.{pair_apart, framed}
use Rattle.rule_match.proofs.base.frame_of.Goals as goal

pub new-requires-clause-different : goal.new-requires-clause-different
new-requires-clause-different c e = pair_apart c.args.front.now c.args.from c.args.to c.points-points.ensures.holds c.requires (sym c.point-start.ensures.value ∙ e ∙ c.point-end.ensures.value)

pub returns : goal.returns
returns c = framed c.args.sizes.now c.args.front.now.points c.args.from c.args.to c.point-start.result c.point-end.result c.middle_of.result c.at.result c.new.result c.point-start.ensures.value c.point-end.ensures.value c.at.ensures.size
    (c.middle_of.ensures.x ∙ sym c.new.ensures.middle_x) (c.middle_of.ensures.y ∙ sym c.new.ensures.middle_y) c.new.ensures
