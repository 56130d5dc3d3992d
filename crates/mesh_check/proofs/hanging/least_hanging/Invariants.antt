use Rattle.mesh_check.specs.Least.{IsLeast}
use Rattle.mesh_check.proofs.OpenSides.{HangsBefore}
use Rattle.mesh_check.proofs.hanging.least_hanging.Given as goal

abbrev pub invariant-loop-i : goal.invariant-loop-i
invariant-loop-i l = IsLeast (HangsBefore l.points l.elements l.i) l.least
