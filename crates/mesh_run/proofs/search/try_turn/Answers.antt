use Rattle.std.proofs.Common.{◌≡◌, ℕ, ◌+◌, ◌≤◌, sym, ◌∙◌, arith}
use Rattle.rule_match.specs.Least.{HasNone}
use Rattle.rule_match.specs.Refused.{IsRefusedBy}
use Rattle.mesh_run.specs.Remembered.{setting_in, state_in}
use Rattle.mesh_run.specs.Trials.{due_in}
use Rattle.mesh_run.proofs.SameState.{none_there}
use Rattle.mesh_run.proofs.TrialsMade.{one_due}
use Rattle.mesh_run.proofs.Turns.{none_up_to, put_on_again}
use Rattle.mesh_run.proofs.search.try_turn.Goals as goal

pub returns-then-is_some-clause-to_try : goal.returns-then-is_some-clause-to_try
returns-then-is_some-clause-to_try g c =
    put_on_again c.args.scene.now.front.now.lines c.args.refusals.now.least.items c.args.scene.now.last c.args.turn c.args.work.now c.insert.new.self c.requires.to_try c.in_ok-insert.ensures.updates

pub remember-requires-clause-none : goal.remember-requires-clause-none
remember-requires-clause-none g c =
    let s = setting_in c.args.scene.now in let st = state_in c.args.scene.now in
    none_up_to s st c.args.turn c.requires.before
    (none_there (HasNone s.sizes st s.rules c.args.turn.1 c.args.turn.0) c.in_ok-found.found (sym c.is_some.ensures ∙ c.if-is_some.false) c.in_ok-found.ensures.none)

pub remember-requires-clause-refused : goal.remember-requires-clause-refused
remember-requires-clause-refused g c =
    let s = setting_in c.args.scene.now in let st = state_in c.args.scene.now in
    none_there (IsRefusedBy s.sizes st s.rules c.args.turn.1 c.args.turn.0 c.best_noted.new.notes.items) c.in_ok-found.found (sym c.is_some.ensures ∙ c.if-is_some.false) c.in_ok-found.ensures.noted

-- a trial is one of those that are due
few : (before after due : ℕ) → 1 ≤ due → after ≡ before + 1 → after ≤ before + due
few before after due some e = omega (arith, some, e)

pub returns-in_err-found-clause-few : goal.returns-in_err-found-clause-few
returns-in_err-found-clause-few g c =
    few c.args.steps.now c.best_noted.new.steps (due_in c.args.scene.now c.args.refusals.now) (one_due c.args.scene.now.last c.args.refusals.now.least.items c.args.scene.now.front.now.lines c.args.turn c.requires.open) c.best_noted.ensures.counted

pub returns-in_err-insert-clause-few : goal.returns-in_err-insert-clause-few
returns-in_err-insert-clause-few g c =
    few c.args.steps.now c.best_noted.new.steps (due_in c.args.scene.now c.args.refusals.now) (one_due c.args.scene.now.last c.args.refusals.now.least.items c.args.scene.now.front.now.lines c.args.turn c.requires.open) c.best_noted.ensures.counted

pub returns-then-is_some-clause-few : goal.returns-then-is_some-clause-few
returns-then-is_some-clause-few g c =
    few c.args.steps.now c.best_noted.new.steps (due_in c.args.scene.now c.args.refusals.now) (one_due c.args.scene.now.last c.args.refusals.now.least.items c.args.scene.now.front.now.lines c.args.turn c.requires.open) c.best_noted.ensures.counted

pub returns-in_err-remember-clause-few : goal.returns-in_err-remember-clause-few
returns-in_err-remember-clause-few g c =
    few c.args.steps.now c.best_noted.new.steps (due_in c.args.scene.now c.args.refusals.now) (one_due c.args.scene.now.last c.args.refusals.now.least.items c.args.scene.now.front.now.lines c.args.turn c.requires.open) c.best_noted.ensures.counted
