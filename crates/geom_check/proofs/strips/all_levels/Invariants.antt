use Rattle.geom_check.specs.RiserOrder.{IsLevelsOf}
use Rattle.geom_check.proofs.strips.all_levels.Given as goal

abbrev pub invariant-loop-edge : goal.invariant-loop-edge
invariant-loop-edge l = IsLevelsOf l.edges l.edge-index l.levels.items
