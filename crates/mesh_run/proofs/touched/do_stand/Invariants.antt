use Rattle.std.proofs.Common.{◌<◌, All, IsSome, take}
use Rattle.front_chain.specs.Front.{line_at}
use Rattle.mesh_run.proofs.touched.do_stand.Given as goal

abbrev pub invariant-loop-note : goal.invariant-loop-note
invariant-loop-note l = All (λ note. note.line < l.front.next → IsSome (line_at l.front.lines note.line)) (take l.note-index l.notes)
