use Rattle.std.proofs.Common.{◌≡◌, Result, Ok, Err, IfOk, OnOk, sym, subst}
use Rattle.mesh_run.specs.declared.domain_run.DomainRun.{DomainRun}
use Rattle.mesh_run.specs.Mesh.{NamesItsPoints}
use Rattle.mesh_run.specs.RunState.{RunState, GoesOn}
use Rattle.mesh_run.proofs.GoesOn.{ended_run}
use Rattle.mesh_run.proofs.all.run_domain.Goals as goal

-- what is answered is x, of which P holds
of_ok : {A E : Type 0} (P : A → Type 0) (x : A) (r : Result A E) → IfOk r (λ y. y ≡ x) → P x → IfOk r P
of_ok P x (Ok y) e h = subst P (sym e) h
of_ok P x (Err f) e h = tt

pub returns-clause-run : goal.returns-clause-run
returns-clause-run g c =
    let ground = c.args.ground.now in let after = c.run.new.self.run in
    of_ok _ _ c.into_domain_run.result c.into_domain_run.ensures.run
    (ended_run ground.geometry.now ground.rules.now ground.options.now c.args.domain after c.in_ok-end.end
    (subst (λ (r : RunState). GoesOn r after) c.in_ok-run.ensures.run c.in_ok-end.ensures.goes_on) c.in_ok-end.ensures.ended)

named_ok : {E : Type 0} (x : DomainRun) (r : Result DomainRun E) → IfOk r (λ y. y ≡ x) → OnOk r (NamesItsPoints x) → IfOk r NamesItsPoints
named_ok x (Ok y) e names = subst NamesItsPoints (sym e) names
named_ok x (Err f) e names = tt

pub returns-clause-names : goal.returns-clause-names
returns-clause-names g c = named_ok _ c.into_domain_run.result c.into_domain_run.ensures.run c.into_domain_run.ensures.names
