use Rattle.std.proofs.Common.{◌<◌}
use Rattle.geom_check.specs.Spans.{IsFreeOf}
use Rattle.geom_check.proofs.spans.is_tangled.Given as goal

abbrev pub invariant-loop-j : goal.invariant-loop-j
invariant-loop-j l = (l.i < l.j) × IsFreeOf l.spans l.i l.j
