use Rattle.std.proofs.Common.{◌≡◌, ◌<◌, ◌∙◌, IsSome, ap, arith, is_some, not, sym}
use Rattle.std.proofs.lemmas.List.Elements.{All-more}
use Rattle.front_chain.specs.Front.{line_at}
use Rattle.rule_match.specs.declared.progress.Note.{Note}
use Rattle.mesh_run.proofs.HeldAreas.{all_taken}
use Rattle.mesh_run.proofs.touched.do_stand.Goals as goal

pub loop-note-preserved : goal.loop-note-preserved
loop-note-preserved c =
    let front = c.args.front.now in let none : Note = record { line = 0; point = 0 } in
    All-more (λ (note : Note). note.line < front.next → IsSome (line_at front.lines note.line)) c.args.notes.now c.loop-note.note-index none (omega (arith, c.loop-note-test.true)) c.loop-note.invariant
    (λ given. ap is_some (sym c.line.ensures) ∙ c.is_none.ensures ∙ ap not c.if-is_none.false)

pub returns : goal.returns
returns c = λ yes.
    let front = c.args.front.now in
    all_taken (λ (note : Note). note.line < front.next → IsSome (line_at front.lines note.line)) c.args.notes.now c.loop-note.note-index (omega (arith, c.loop-note-test.false)) (omega (arith, c.loop-note.auto.note-index-end)) c.loop-note.invariant
