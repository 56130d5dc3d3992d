use Rattle.std.proofs.Common.{◌+◌, ◌++◌, ◌∷◌, [], List, take, subst, sym}
use Rattle.std.proofs.lemmas.List.{take_more}
use Rattle.rule_reader.specs.declared.rule.MapPoint.{MapPoint}
use Rattle.rule_maps.specs.declared.reach.Leeway.{Leeway}
use Rattle.rule_match.specs.Leeways.{AreLeewaysAt}
use Rattle.rule_match.proofs.Tolerated.{one_more_leeway}
use Rattle.rule_match.proofs.leeways.leeways_at.Goals as goal

pub loop-point-preserved : goal.loop-point-preserved
loop-point-preserved c = let points = c.args.points.now in let k = c.loop-point.point-index in
    subst (λ (ws : List Leeway). AreLeewaysAt c.args.class (take (k + 1) points) ws) (sym c.in_ok-push.ensures.items)
    (subst (λ (ps : List MapPoint). AreLeewaysAt c.args.class ps (c.loop-point.all.items ++ c.leeway_at.result ∷ [])) (sym (take_more points k _ c.loop-point-test.true))
    (one_more_leeway c.args.class (take k points) c.loop-point.all.items _ c.leeway_at.result c.loop-point.invariant c.leeway_at.ensures))
