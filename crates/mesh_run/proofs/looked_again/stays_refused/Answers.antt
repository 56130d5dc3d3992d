use Rattle.std.proofs.Common.{rules, ℕ, ◌≡◌, List, filter, Some, is_some, sym, ◌∙◌, subst}
use Rattle.std.proofs.lemmas.Fn.{filter_same}
use Rattle.front_chain.specs.Front.{line_at}
use Rattle.rule_match.specs.declared.progress.Note.{Note}
use Rattle.rule_match.specs.LookedAgain.{DoStand}
use Rattle.rule_match.specs.Refused.{IsRefusedAgain}
use Rattle.mesh_run.specs.Kept.{AreFreshPoints}
use Rattle.mesh_run.specs.Remembered.{setting_in, state_in}
use Rattle.mesh_run.proofs.StillKept.{all_stand, kept_refused}
use Rattle.mesh_run.proofs.looked_again.stays_refused.Goals as goal

pub returns : goal.returns
returns c still =
    let s = setting_in c.args.scene.now in let front = c.args.scene.now.front.now in let later = state_in c.args.scene.now in
    let grown = c.again.new.notes.items in
    let at : line_at front.lines c.args.turn.1 ≡ Some c.unwrap-base.result = sym c.line.ensures ∙ c.unwrap-base.ensures in
    let left : c.retain.new.self.items ≡ filter (λ note. is_some (line_at front.lines note.line)) grown =
    filter_same _ (λ note. is_some (line_at front.lines note.line)) _ (λ note b f' called. search rules) _ _ c.retain.ensures.filtered in
    let stand : DoStand front.lines grown c.retain.new.self.items = subst (DoStand front.lines grown) (sym left) (all_stand front.lines front.next grown c.lines-lines.ensures.holds.rising) in
    let new : AreFreshPoints front.lines c.args.change.now c.args.notes.now.items c.in_ok-fresh.fresh.items =
    subst (λ (ns : List Note). AreFreshPoints front.lines c.args.change.now ns c.in_ok-fresh.fresh.items) c.as_slice.ensures.value c.in_ok-fresh.ensures in
    let again : IsRefusedAgain s.sizes later s.rules c.args.turn.1 c.args.turn.0 c.in_ok-fresh.fresh.items grown =
    subst (λ (ns : List ℕ). IsRefusedAgain s.sizes later s.rules c.args.turn.1 c.args.turn.0 ns grown) c.deref.ensures.value (c.in_ok-again.ensures.noted c.if-branch.false) in
    kept_refused s later c.args.change.now c.args.turn.1 c.args.turn.0 c.unwrap-base.result c.reach_box-reach.result c.args.notes.now.items grown c.retain.new.self.items c.in_ok-fresh.fresh.items c.requires.rules at
    (c.reach_box-reach.ensures c.unwrap-base.result at) new c.again.ensures.kept again stand c.requires.was
