use Rattle.std.proofs.Common.{sym, ◌∙◌}
use Rattle.netmesh_cli.proofs.Sweeps.{added_both, added_right, turned_back}
use Rattle.netmesh_cli.proofs.areas.added.Goals as goal

pub returns-then-segment-clause-value : goal.returns-then-segment-clause-value
returns-then-segment-clause-value c = sym (added_both c.args.points.now c.args.domain c.args.segment.now c.if-segment.true)

pub returns-then-segment-domain-2-clause-value : goal.returns-then-segment-domain-2-clause-value
returns-then-segment-domain-2-clause-value c = turned_back c.swept-area.result _ c.swept-area.ensures.value c.swept-area.ensures.small ∙ sym (added_right c.args.points.now c.args.domain c.args.segment.now c.if-segment-domain.false c.if-segment-domain-2.true)
