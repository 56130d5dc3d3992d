use Rattle.std.proofs.Common.{arith}
use Rattle.std.proofs.lemmas.List.Elements.{All-contains}
use Rattle.rule_match.specs.declared.progress.Note.{Note}
use Rattle.mesh_run.proofs.HeldAreas.{all_taken}
use Rattle.mesh_run.proofs.StillKept.{IsFreshNote, more_ends, one_more_note}
use Rattle.mesh_run.proofs.looked_again.fresh_points.Goals as goal

pub loop-note-preserved : goal.loop-note-preserved
loop-note-preserved c =
    let was = c.loop-note.fresh.items in let now = c.push_left.new.fresh.items in let none : Note = record { line = 0; point = 0 } in
    record {
      joined = λ line there new. more_ends c.args.change.now.points was now (line.1, line.2) c.push_left.ensures.kept (c.loop-note.invariant.joined line there new);
      left = one_more_note c.args.front.now.lines was now c.args.notes.now c.loop-note.note-index none (omega (arith, c.loop-note-test.true)) c.push_left.ensures.kept c.loop-note.invariant.left c.in_ok-push_left.ensures.left;
    }

pub returns : goal.returns
returns c = record {
  joined = c.loop-note.invariant.joined;
  left = λ note there.
      All-contains (IsFreshNote c.args.front.now.lines c.loop-note.fresh.items) c.args.notes.now note
      (all_taken (IsFreshNote c.args.front.now.lines c.loop-note.fresh.items) c.args.notes.now c.loop-note.note-index (omega (arith, c.loop-note-test.false)) (omega (arith, c.loop-note.auto.note-index-end)) c.loop-note.invariant.left) there;
}
