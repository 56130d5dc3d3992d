use Rattle.std.proofs.Common.{◌+◌, ◌∷◌, [], take, sym, subst, arith}
use Rattle.wind_law.specs.Chains.{edge}
use Rattle.mesh_check.specs.Least.{IsLeastNumber}
use Rattle.mesh_check.specs.Hung.{IsMetIn}
use Rattle.mesh_check.proofs.OpenSides.{more_met, all_met}
use Rattle.mesh_check.proofs.hanging.least_on.Goals as goal

pub loop-hit-preserved : goal.loop-hit-preserved
loop-hit-preserved c = subst (IsLeastNumber (IsMetIn (take (c.loop-hit.hit-index + 1) c.args.hits.now) (edge c.args.a c.args.b ∷ []))) (sym c.least_of-least.ensures)
    (more_met c.args.hits.now c.args.a c.args.b c.loop-hit.hit-index _ c.loop-hit.least c.met.result c.loop-hit-test.true c.met.ensures c.loop-hit.invariant)

pub returns : goal.returns
returns c = all_met c.args.hits.now c.args.a c.args.b c.loop-hit.hit-index c.loop-hit.least (omega arith) c.loop-hit.invariant
