use Rattle.std.proofs.Common.{◌≡◌, ◌*◌, length, ap, ◌∙◌, subst}
use Rattle.mesh_run.specs.Trials.{RunView, due}
use Rattle.mesh_run.proofs.OpenedRun.{nothing_true}
use Rattle.mesh_run.proofs.TrialsMade.{nothing_due}
use Rattle.mesh_run.proofs.run.Run.forget.Goals as goal

pub invariant_of-self : goal.invariant_of-self
invariant_of-self c =
    let r = c.self.inside in
    record { is_run = c.self.invariant.is_run; remembered = nothing_true (record { sizes = r.sizes; rules = r.rules.now; last = r.options.last }) _ r.refusals.reaches.items c.forget_all.new.refusals c.self.invariant.remembered.covers c.forget_all.ensures; to_try = tt }

pub returns-clause-stands : goal.returns-clause-stands
returns-clause-stands c = ap (λ (v : RunView). v.run) c.self.view_is

pub returns-clause-due : goal.returns-clause-due
returns-clause-due c =
    let r = c.self.inside in
    subst (λ (v : RunView). due r.options.last c.forget_all.new.refusals.least.items r.front.lines ≡ v.run.basis.options.last * length v.run.state.front) c.self.view_is
    (nothing_due r.options.last c.forget_all.new.refusals.least.items r.front.lines c.forget_all.ensures.nothing)
