use Rattle.std.proofs.Common.{take}
use Rattle.std.specs.List.{All}
use Rattle.admission.specs.Around.{IsBoxOnGrid, IsShapeIn}
use Rattle.admission.proofs.shapes.box_of.Given as goal

abbrev pub invariant-loop-shape : goal.invariant-loop-shape
invariant-loop-shape l = record { on_grid : IsBoxOnGrid l.bounds; held : All (IsShapeIn l.bounds) (take l.shape-index l.shapes) }
