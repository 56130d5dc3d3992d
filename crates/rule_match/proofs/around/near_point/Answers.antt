use Rattle.std.proofs.Common.{subst, sym}
use Rattle.rule_maps.specs.Frame.{IsInRange}
use Rattle.rule_match.proofs.NearPlaces.{along_kept, left_kept, near_is}
use Rattle.rule_match.proofs.around.near_point.Goals as goal

pub overflow_cast-result : goal.overflow_cast-result
overflow_cast-result c = (along_kept c.args.frame.now c.point-at.result c.local4-x.result.0 c.p1-start.ensures.frame (subst (IsInRange c.args.frame.now) (sym c.point-at.ensures.value) c.requires.range) c.local4-x.ensures.along).fits

pub overflow_cast-result-2 : goal.overflow_cast-result-2
overflow_cast-result-2 c = (left_kept c.args.frame.now c.point-at.result c.local4-x.result.1 c.p1-start.ensures.frame (subst (IsInRange c.args.frame.now) (sym c.point-at.ensures.value) c.requires.range) c.local4-x.ensures.left).fits

pub returns-clause-value : goal.returns-clause-value
returns-clause-value c = near_is c.args.front.now.points c.args.frame.now c.args.number c.point-at.result _ _ c.point-at.ensures.value
    (along_kept c.args.frame.now c.point-at.result c.local4-x.result.0 c.p1-start.ensures.frame (subst (IsInRange c.args.frame.now) (sym c.point-at.ensures.value) c.requires.range) c.local4-x.ensures.along).value
    (left_kept c.args.frame.now c.point-at.result c.local4-x.result.1 c.p1-start.ensures.frame (subst (IsInRange c.args.frame.now) (sym c.point-at.ensures.value) c.requires.range) c.local4-x.ensures.left).value
