use Rattle.std.proofs.Common.{◌≡◌, ◌+◌, ◌++◌, drop}
use Rattle.mesh_run.specs.Opening.{front_from}
use Rattle.mesh_run.proofs.opening.front_of.Given as goal

abbrev pub invariant-loop-index : goal.invariant-loop-index
invariant-loop-index l = l.front.items ++ front_from (l.index + 1) (drop l.index l.lines) ≡ front_from 1 l.lines
