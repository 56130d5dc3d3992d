use Rattle.std.proofs.Common.{All, subst, sym, arith}
use Rattle.std.proofs.lemmas.List.Elements.{All-push}
use Rattle.mesh_run.specs.Mesh.{NamesItsPoints}
use Rattle.mesh_run.specs.Runs.{IsDomainRun}
use Rattle.mesh_run.proofs.Zipped.{zip_more}
use Rattle.mesh_run.proofs.all.run_domains.Goals as goal

pub loop-domain-preserved : goal.loop-domain-preserved
loop-domain-preserved g c = record {
  runs = zip_more (IsDomainRun c.args.ground.now.geometry.now c.args.ground.now.rules.now c.args.ground.now.options.now) c.deref-domain-items.result.now c.loop-domain.runs.items c.push.new.self.items c.loop-domain.domain-index 0 c.in_ok-run_domain.field-0
      (omega (arith, c.loop-domain-test.true)) c.loop-domain.invariant.runs c.in_ok-run_domain.ensures.run c.in_ok-push.ensures.items;
  names = subst (All NamesItsPoints) (sym c.in_ok-push.ensures.items) (All-push NamesItsPoints c.loop-domain.runs.items c.in_ok-run_domain.field-0 c.loop-domain.invariant.names c.in_ok-run_domain.ensures.names);
}
