use Rattle.std.proofs.Common.{◌≡◌, ◌<◌, ℕ, List, length, arith, ◌∙◌, subst, inl, refl, sym}
use Rattle.std.proofs.lemmas.List.Elements.{All-nil}
use Rattle.digital_tree.specs.declared.Entry.{Entry}
use Rattle.mesh_run.specs.declared.refusals.Region.{Region}
use Rattle.mesh_run.specs.Kept.{IsLookedAgain}
use Rattle.mesh_run.specs.Remembered.{setting_in, state_in}
use Rattle.mesh_run.proofs.HeldAreas.{all_taken}
use Rattle.mesh_run.proofs.LookedAt.{held_twice, kept_of_all, none_held, one_more_kept, one_more_looked, still_were}
use Rattle.mesh_run.proofs.Tried.{as_it_is, tried_again}
use Rattle.mesh_run.proofs.looked_again.look_at_all.Goals as goal

pub loop-hit-init : goal.loop-hit-init
loop-hit-init c = record {
  held = none_held (setting_in c.args.scene.now) (state_in c.args.scene.now) c.args.refusals.now;
  kept = λ line. inl refl;
  looked = All-nil (λ (e : Entry Region). IsLookedAgain c.args.refusals.now (setting_in c.args.scene.now) (state_in c.args.scene.now) e.value);
  again = as_it_is (record { least = c.args.refusals.now.least.items; work = c.args.work.now });
}

pub look_at-requires-clause-reaches : goal.look_at-requires-clause-reaches
look_at-requires-clause-reaches c = subst (λ (ns : List ℕ). length ns ≡ 17) (sym c.loop-hit.invariant.held.reaches) c.requires.reaches

pub look_at-requires-clause-were : goal.look_at-requires-clause-were
look_at-requires-clause-were c =
    still_were (setting_in c.args.scene.now) (state_in c.args.scene.now) c.args.change.now c.args.refusals.now c.loop-hit.refusals _ c.loop-hit.invariant.held (c.requires.were c.loop-hit.hit-index _ (omega (arith, c.loop-hit-test.true)))

pub loop-hit-preserved : goal.loop-hit-preserved
loop-hit-preserved c =
    let s = setting_in c.args.scene.now in let later = state_in c.args.scene.now in let k = c.loop-hit.hit-index in let l : k < length c.args.hits.now = omega (arith, c.loop-hit-test.true) in
    record {
      held = held_twice s later c.args.refusals.now c.loop-hit.refusals c.look_at.new.refusals c.loop-hit.invariant.held c.look_at.ensures.held;
      kept = one_more_kept c.args.hits.now c.args.refusals.now.least.items c.loop-hit.refusals.least.items c.look_at.new.refusals.least.items k _ l c.loop-hit.invariant.kept c.look_at.ensures.kept;
      looked = one_more_looked s later c.args.hits.now c.loop-hit.refusals c.look_at.new.refusals k _ l c.look_at.ensures.held c.loop-hit.invariant.looked c.look_at.ensures.looked;
      again = tried_again (record { least = c.args.refusals.now.least.items; work = c.args.work.now }) (record { least = c.loop-hit.refusals.least.items; work = c.loop-hit.work })
          (record { least = c.look_at.new.refusals.least.items; work = c.look_at.new.work }) c.loop-hit.invariant.again c.look_at.ensures.again;
    }

pub returns-clause-kept : goal.returns-clause-kept
returns-clause-kept c = kept_of_all c.args.hits.now c.args.refusals.now.least.items c.loop-hit.refusals.least.items c.loop-hit.hit-index (omega (arith, c.loop-hit-test.false)) c.loop-hit.invariant.kept

pub returns-clause-looked : goal.returns-clause-looked
returns-clause-looked c =
    all_taken (λ (e : Entry Region). IsLookedAgain c.loop-hit.refusals (setting_in c.args.scene.now) (state_in c.args.scene.now) e.value) c.args.hits.now c.loop-hit.hit-index (omega (arith, c.loop-hit-test.false))
    (omega (arith, c.loop-hit.auto.hit-index-end)) c.loop-hit.invariant.looked
