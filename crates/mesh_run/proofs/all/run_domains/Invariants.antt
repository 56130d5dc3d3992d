use Rattle.std.proofs.Common.{take, All}
use Rattle.std.specs.List.{AllZip}
use Rattle.mesh_run.specs.Mesh.{NamesItsPoints}
use Rattle.mesh_run.specs.Runs.{IsDomainRun}
use Rattle.mesh_run.proofs.all.run_domains.Given as goal

abbrev pub invariant-loop-domain : goal.invariant-loop-domain
invariant-loop-domain g l = record {
  runs : AllZip (IsDomainRun l.ground.geometry.now l.ground.rules.now l.ground.options.now) (take l.domain-index l.domain-items) l.runs.items;
  names : All NamesItsPoints l.runs.items;
}

abbrev pub ghosts-run_domain : goal.ghosts-run_domain
ghosts-run_domain g a = record { name = a.blank.name; parts = a.blank.parts }
