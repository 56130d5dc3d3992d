use Rattle.std.proofs.Common.{ℕ, ◌≤◌, List, slice_index_or, inl, refl, subst, sym, arith}
use Rattle.digital_tree.specs.declared.Entry.{Entry}
use Rattle.mesh_run.specs.declared.refusals.Region.{Region}
use Rattle.mesh_run.specs.Remembered.{AreDropped, IsGone}
use Rattle.mesh_run.proofs.Forgotten.{fewer_left, stay_left}
use Rattle.mesh_run.proofs.touched.drop_forgotten.Goals.{then-is_gone, else-is_gone}
use Rattle.mesh_run.proofs.touched.drop_forgotten.Goals as goal

pub loop-hit-init : goal.loop-hit-init
loop-hit-init c = record { reaches = refl; least = refl; notes = refl; fewer = λ e there. there; stay = λ e there. inl there }

pub loop-hit-preserved : goal.loop-hit-preserved
loop-hit-preserved c =
    let before = c.args.refusals.now in let was = c.loop-hit.refusals in let h = c.loop-hit.invariant in let k = c.loop-hit.hit-index in
    let hit : Entry Region = slice_index_or c.args.hits.now k _ in
    elim c.if-is_gone.branch [
      | then-is_gone w ↦
          let left = w.remove-held.new.self.entries in
          let gone : IsGone before hit = subst (λ (table : List ℕ). slice_index_or table hit.value.line 0 ≤ hit.value.class) h.least (c.is_gone.ensures w.if-is_gone.true) in
          subst (AreDropped before) (sym w.refusals-is) (record {
            reaches = h.reaches;
            least = h.least;
            notes = h.notes;
            fewer = fewer_left before was left hit w.remove-held.result h w.remove-held.ensures.removed w.remove-held.ensures.absent;
            stay = stay_left before was left hit w.remove-held.result h w.remove-held.ensures.removed w.remove-held.ensures.absent c.requires.different (c.requires.entries k _ (omega (arith, c.loop-hit-test.true))) gone;
          })
      | else-is_gone w ↦ subst (AreDropped before) (sym w.refusals-is) h
    ]
