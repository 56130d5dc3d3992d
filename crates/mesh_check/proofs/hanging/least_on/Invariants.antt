use Rattle.std.proofs.Common.{◌∷◌, [], take}
use Rattle.wind_law.specs.Chains.{edge}
use Rattle.mesh_check.specs.Least.{IsLeastNumber}
use Rattle.mesh_check.specs.Hung.{IsMetIn}
use Rattle.mesh_check.proofs.hanging.least_on.Given as goal

abbrev pub invariant-loop-hit : goal.invariant-loop-hit
invariant-loop-hit l = IsLeastNumber (IsMetIn (take l.hit-index l.hits) (edge l.a l.b ∷ [])) l.least
