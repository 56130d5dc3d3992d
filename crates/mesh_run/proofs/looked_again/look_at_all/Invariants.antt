use Rattle.std.proofs.Common.{◌≡◌, ℕ, ◌⊎◌, All, slice_index_or, take}
use Rattle.mesh_run.specs.Kept.{AreHeld, IsLookedAgain}
use Rattle.mesh_run.specs.Remembered.{HasEntryOf, setting_in, state_in}
use Rattle.mesh_run.specs.Worklist.{AreTriedAgain}
use Rattle.mesh_run.proofs.looked_again.look_at_all.Given as goal

abbrev pub invariant-loop-hit : goal.invariant-loop-hit
invariant-loop-hit l = record {
  held : AreHeld (setting_in l.scene) (state_in l.scene) l.initial.refusals l.refusals;
  kept : (line : ℕ) → (slice_index_or l.refusals.least.items line 0 ≡ slice_index_or l.initial.refusals.least.items line 0) ⊎ HasEntryOf (take l.hit-index l.hits) line;
  looked : All (λ e. IsLookedAgain l.refusals (setting_in l.scene) (state_in l.scene) e.value) (take l.hit-index l.hits);
  again : AreTriedAgain (record { least = l.initial.refusals.least.items; work = l.initial.work }) (record { least = l.refusals.least.items; work = l.work });
}
