use Rattle.std.proofs.Common.{refl, false}
use Rattle.grid_geom.proofs.Booleans.{clash}
use Rattle.rule_maps.proofs.Idle.{idle_at, still_named, none_idle}
use Rattle.rule_maps.proofs.inert.has_idle_point.Goals as goal

pub returns-then-is_idle : goal.returns-then-is_idle
returns-then-is_idle c = (λ t. idle_at c.args.rule.now c.loop-point.point c.as_slice-points.ensures c.as_slice-point-end.ensures c.loop-point-test.true (c.if-is_idle.ensures.0 refl), λ h. refl)

pub loop-point-preserved : goal.loop-point-preserved
loop-point-preserved c = still_named c.args.rule.now c.loop-point.point c.as_slice-points.ensures c.loop-point.invariant c.if-is_idle.ensures.1

pub returns : goal.returns
returns c = (λ t. absurd (clash false refl t), λ h. absurd (none_idle c.args.rule.now c.loop-point.point c.as_slice-point-end.ensures c.loop-point-test.false c.loop-point.invariant h))
