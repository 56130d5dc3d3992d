use Rattle.std.proofs.Common.{subst, ap}
use Rattle.mesh_run.specs.Mesh.{NamesItsPoints}
use Rattle.mesh_run.specs.RunState.{RunState, domain_run}
use Rattle.mesh_run.specs.Trials.{RunView}
use Rattle.mesh_run.proofs.run.Run.into_domain_run.Goals as goal

pub returns-clause-names : goal.returns-clause-names
returns-clause-names c =
    subst (λ (r : RunState). NamesItsPoints (domain_run r c.args.end)) (ap (λ (v : RunView). v.run) c.self.view_is)
    (record { opened = c.self.invariant.is_run.grows; corners = c.self.invariant.is_run.names })
