use Rattle.std.proofs.Common.{◌≡◌, ℕ, Option, Result, IfOk, IfSome, IfNone, List, [], length, sym, subst, ap, ◌∙◌}
use Rattle.std.specs.declared.alloc.AllocError.{AllocError}
use Rattle.rule_match.specs.declared.application.Application.{Application}
use Rattle.mesh_run.specs.declared.End.{End}
use Rattle.mesh_run.specs.Steps.{IsNext, NothingApplies}
use Rattle.mesh_run.specs.RunState.{IsEndOfRun, setting_by}
use Rattle.mesh_run.specs.Trials.{RunView}
use Rattle.mesh_run.proofs.run.Run.end_here.Goals.{in-Some, in-None}
use Rattle.mesh_run.proofs.run.Run.end_here.Goals as goal

not_empty : (n : ℕ) (lines : List (ℕ × ℕ × ℕ)) → (n ≡ 0 → ⊥) → n ≡ length lines → lines ≡ [] → ⊥
not_empty n lines h e z = h (e ∙ ap length z)

pub returns-clause-ended : goal.returns-clause-ended
returns-clause-ended g c =
    let r = c.args.self.now.run in let found = c.in_ok-next_application.ensures in
    elim c.match-branch-2.branch [
      | in-Some w ↦ subst (λ (x : Result End AllocError). IfOk x (IsEndOfRun r)) (sym w.result-is)
          (record { application = w.in-Some.field-0; next = subst (λ (o : Option Application). IfSome o (IsNext (setting_by r.basis) r.state)) w.in-Some.is found.next }, c.requires)
      | in-None w ↦ subst (λ (x : Result End AllocError). IfOk x (IsEndOfRun r)) (sym w.result-is) (
        λ e. not_empty c.lines.result c.self.inside.front.lines c.if-lines-eq0.false c.lines.ensures.count (ap (λ (v : RunView). v.run.state.front) c.self.view_is ∙ e),
        subst (λ (o : Option Application). IfNone o (NothingApplies (setting_by r.basis) r.state)) w.in-None.is found.none,
      )
    ]
