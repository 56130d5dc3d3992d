use Rattle.std.proofs.Common.{◌≡◌, filter, take}
use Rattle.geom_check.specs.Risers.{is_chosen}
use Rattle.geom_check.specs.RiserOrder.{is_border}
use Rattle.geom_check.proofs.strips.borders.Given as goal

abbrev pub invariant-loop-riser : goal.invariant-loop-riser
invariant-loop-riser l = l.borders.items ≡ filter (is_border (is_chosen l.chosen)) (take l.riser-index l.risers)
