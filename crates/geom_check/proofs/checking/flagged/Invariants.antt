use Rattle.std.proofs.Common.{◌≡◌, ◌++◌, drop}
use Rattle.geom_check.specs.Geometry.{sources_of}
use Rattle.geom_check.proofs.checking.flagged.Given as goal

abbrev pub invariant-loop-i : goal.invariant-loop-i
invariant-loop-i l = l.flagged.items ++ sources_of l.scale.shift (drop l.i l.rows) ≡ sources_of l.scale.shift l.rows
