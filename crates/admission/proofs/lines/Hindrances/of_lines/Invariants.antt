use Rattle.std.proofs.Common.{take}
use Rattle.admission.specs.Triangles.{corners_of_triangle, HasSome, AreLeast}
use Rattle.admission.proofs.lines.Hindrances.of_lines.Given as goal

abbrev pub invariant-loop-line : goal.invariant-loop-line
invariant-loop-line l = AreLeast (corners_of_triangle l.t) (λ R. HasSome R (take l.line-index l.lines)) l.least
