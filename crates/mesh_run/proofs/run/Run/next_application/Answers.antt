use Rattle.std.proofs.Common.{◌+◌, ◌≤◌, refl, subst, ap, IfOk, IfSome, IfNone, OnOk}
use Rattle.front_chain.specs.Front.{state_of}
use Rattle.rule_match.specs.declared.application.Application.{Application}
use Rattle.mesh_run.specs.RunState.{RunState, setting_by}
use Rattle.mesh_run.specs.Steps.{RunSetting, IsNext, NothingApplies}
use Rattle.mesh_run.specs.Trials.{RunView, due}
use Rattle.mesh_run.proofs.SameState.{of_found, of_none}
use Rattle.mesh_run.proofs.Searched.{same_next, same_nothing, same_true}
use Rattle.mesh_run.specs.declared.run.Run.TheInside.{Inside}
use Rattle.mesh_run.proofs.run.Run.next_application.Goals as goal

abbrev setting : Inside → RunSetting
setting r = record { sizes = r.sizes; rules = r.rules.now; last = r.options.last }

pub find_next-requires-clause-last_class : goal.find_next-requires-clause-last_class
find_next-requires-clause-last_class g c = c.self.invariant.is_run.options.last_class

pub find_next-requires-clause-remembered : goal.find_next-requires-clause-remembered
find_next-requires-clause-remembered g c =
    let r = c.self.inside in same_true (setting r) r.refusals _ (state_of r.front) (record { points = refl; front = refl }) refl c.self.invariant.remembered

pub find_next-requires-clause-to_try : goal.find_next-requires-clause-to_try
find_next-requires-clause-to_try g c = c.self.invariant.to_try

pub invariant_of-self : goal.invariant_of-self
invariant_of-self g c =
    let r = c.self.inside in
    record { is_run = c.self.invariant.is_run; remembered = same_true (setting r) c.find_next.new.refusals (state_of r.front) _ (record { points = refl; front = refl }) refl c.find_next.ensures.remembered; to_try = c.find_next.ensures.to_try }

pub returns-clause-next : goal.returns-clause-next
returns-clause-next g c =
    let r = c.self.inside in
    subst (λ (s : RunState). IfOk c.find_next.result (λ found. IfSome found (IsNext (setting_by s.basis) s.state))) (ap (λ (v : RunView). v.run) c.self.view_is)
    (of_found _ _ c.find_next.result (λ (a : Application). same_next (setting r) (state_of r.front) _ a (record { points = refl; front = refl })) c.find_next.ensures.next)

pub returns-clause-none : goal.returns-clause-none
returns-clause-none g c =
    let r = c.self.inside in
    subst (λ (s : RunState). IfOk c.find_next.result (λ found. IfNone found (NothingApplies (setting_by s.basis) s.state))) (ap (λ (v : RunView). v.run) c.self.view_is)
    (of_none _ _ c.find_next.result (same_nothing (setting r) (state_of r.front) _ (record { points = refl; front = refl })) c.find_next.ensures.none)

pub returns-clause-few : goal.returns-clause-few
returns-clause-few g c = subst (λ (v : RunView). c.find_next.new.steps ≤ c.args.steps.now + v.due) c.self.view_is c.find_next.ensures.few

pub returns-clause-found : goal.returns-clause-found
returns-clause-found g c =
    let r = c.self.inside in
    subst (λ (v : RunView). OnOk c.find_next.result (c.find_next.new.steps + due r.options.last c.find_next.new.refusals.least.items r.front.lines ≤ c.args.steps.now + v.due + 1)) c.self.view_is c.find_next.ensures.found

pub returns-clause-refused : goal.returns-clause-refused
returns-clause-refused g c =
    let r = c.self.inside in
    subst (λ (v : RunView). IfOk c.find_next.result (λ found. IfNone found (c.find_next.new.steps + due r.options.last c.find_next.new.refusals.least.items r.front.lines ≤ c.args.steps.now + v.due))) c.self.view_is c.find_next.ensures.refused
