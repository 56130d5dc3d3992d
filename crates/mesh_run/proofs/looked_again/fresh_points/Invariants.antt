use Rattle.std.proofs.Common.{ℕ, ◌≤◌, ◌⊎◌, All, IsSome, take}
use Rattle.std.specs.List.{Contains}
use Rattle.front_chain.specs.Front.{line_at}
use Rattle.mesh_run.specs.Kept.{AreEndsFresh}
use Rattle.mesh_run.proofs.looked_again.fresh_points.Given as goal

abbrev pub invariant-loop-note : goal.invariant-loop-note
invariant-loop-note l = record {
  joined : (line : ℕ × ℕ × ℕ) → Contains l.front.lines line → l.change.first ≤ line.0 → AreEndsFresh l.change.points l.fresh.items (line.1, line.2);
  left : All (λ note. IsSome (line_at l.front.lines note.line) ⊎ Contains l.fresh.items note.point) (take l.note-index l.notes);
}
