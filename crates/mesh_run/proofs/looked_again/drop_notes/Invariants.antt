use Rattle.std.proofs.Common.{◌≡◌, ◌≢◌, ℕ, ◌<◌, ◌⊎◌}
use Rattle.std.specs.BTreeMap.{get}
use Rattle.mesh_run.specs.Worklist.{turn_cmp}
use Rattle.mesh_run.proofs.looked_again.drop_notes.Given as goal

abbrev pub invariant-loop-n : goal.invariant-loop-n
invariant-loop-n l = (line class : ℕ) → (line ≢ l.line) ⊎ (class < l.class) → get turn_cmp l.notes (class, line) ≡ get turn_cmp l.initial.notes (class, line)
