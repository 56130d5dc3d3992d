use Rattle.std.proofs.Common.{◌≡◌, ℕ, ap, ◌+◌, ◌≤◌, List, Result, Ok, Err, OnOk, Vec, Global, slice_index_or, refl, sym, ◌∙◌, subst}
use Rattle.std.specs.BTreeMap.{get, is_at}
use Rattle.std.specs.Map.{lookup}
use Rattle.rule_match.specs.declared.progress.Note.{Note}
use Rattle.mesh_run.specs.Kept.{PairNotes}
use Rattle.mesh_run.specs.declared.refusals.Refusals.{Refusals}
use Rattle.mesh_run.specs.Remembered.{IsNoted, setting_in, state_in}
use Rattle.mesh_run.specs.Worklist.{least_open, turn_cmp}
use Rattle.mesh_run.proofs.Noted.{noted_true, still_kept}
use Rattle.mesh_run.proofs.TrialsMade.{one_less}
use Rattle.mesh_run.proofs.refusals.remember.Goals as goal

pub returns-in_err-hold-clause-remembered : goal.returns-in_err-hold-clause-remembered
returns-in_err-hold-clause-remembered c =
    still_kept (setting_in c.args.scene.now) (state_in c.args.scene.now) c.args.refusals.now c.hold.new.refusals c.hold.ensures.least c.hold.ensures.reaches (λ turn. ap (λ (notes : PairNotes). get turn_cmp notes turn) c.hold.ensures.notes) c.hold.ensures.stay c.hold.ensures.own c.requires.remembered

-- where the notes can't be put, they are as before
pub returns-in-Err-clause-remembered : goal.returns-in-Err-clause-remembered
returns-in-Err-clause-remembered c =
    let held = c.hold.new.refusals in let after : Refusals = record held { notes = c.insert.new.self } in
    still_kept (setting_in c.args.scene.now) (state_in c.args.scene.now) c.args.refusals.now after c.hold.ensures.least c.hold.ensures.reaches
    (λ turn. ap (λ (es : List ((ℕ × ℕ) × Vec Note Global)). lookup (is_at (turn_cmp turn)) es) c.in-Err.ensures.err ∙ ap (λ (notes : PairNotes). get turn_cmp notes turn) c.hold.ensures.notes) c.hold.ensures.stay c.hold.ensures.own c.requires.remembered

pub returns-clause-remembered : goal.returns-clause-remembered
returns-clause-remembered c =
    let s = setting_in c.args.scene.now in let held = c.hold.new.refusals in
    let after : Refusals = record held { least = c.note.new.table; notes = c.insert.new.self } in
    noted_true s c.args.scene.now.front.now held after c.args.line c.args.class c.lines-lines.ensures.holds
    (still_kept s (state_in c.args.scene.now) c.args.refusals.now held c.hold.ensures.least c.hold.ensures.reaches (λ turn. ap (λ (notes : PairNotes). get turn_cmp notes turn) c.hold.ensures.notes) c.hold.ensures.stay c.hold.ensures.own c.requires.remembered) c.note.ensures.noted c.args.notes c.in_default.ensures.updates c.requires.refused refl (record { each = λ e k. k }) (λ e k. k) c.requires.on_front
    (subst (λ (table : List ℕ). c.args.class ≤ least_open table c.args.line) (sym c.hold.ensures.least) c.requires.first) c.in_ok-hold.ensures.held c.requires.none

-- what holds after Ok, by what else does
on_ok : {A E P Q : Type 0} (r : Result A E) → (P → Q) → OnOk r P → OnOk r Q
on_ok (Ok x) f h = f h
on_ok (Err e) f h = tt

pub returns-clause-fewer : goal.returns-clause-fewer
returns-clause-fewer c =
    let before = c.args.refusals.now.least.items in let after = c.note.new.table.items in
    on_ok c.note.result (λ (there : slice_index_or after c.args.line 0 ≡ c.args.class + 1) is_open.
    one_less c.args.scene.now.last before c.args.scene.now.front.now.lines (c.args.class, c.args.line) is_open after c.requires.first
    (subst (λ (table : List ℕ). IsNoted table after c.args.line (c.args.class + 1)) c.hold.ensures.least c.note.ensures.noted) there) c.note.ensures.there
