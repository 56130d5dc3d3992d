use Rattle.std.proofs.Common.{◌≡◌, map, take}
use Rattle.admission.specs.Around.{drawn_at}
use Rattle.admission.proofs.near.lines_near.Given as goal

abbrev pub invariant-loop-n : goal.invariant-loop-n
invariant-loop-n l = l.lines.items ≡ map (drawn_at l.front) (take l.n-index l.n-items)
