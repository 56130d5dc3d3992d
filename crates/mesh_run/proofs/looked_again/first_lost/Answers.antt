use Rattle.std.proofs.Common.{◌+◌, sym, subst, arith}
use Rattle.mesh_run.specs.declared.refusals.Refusals.{Refusals}
use Rattle.mesh_run.specs.Remembered.{setting_in, state_in}
use Rattle.mesh_run.proofs.LookedAt.{AreKeptBelow, lost_at, none_below, none_lost, one_more_held, one_more_passed, was_there}
use Rattle.mesh_run.proofs.looked_again.first_lost.Goals.{else-is_own-via-then-is_own+else-not-is_kept, else-is_own-via-else-is_own}
use Rattle.mesh_run.proofs.looked_again.first_lost.Goals as goal

pub loop-n-init : goal.loop-n-init
loop-n-init c = none_below (setting_in c.args.scene.now) (state_in c.args.scene.now) c.args.region c.args.refusals.now _ c.max-n.ensures

pub is_kept-requires-clause-was : goal.is_kept-requires-clause-was
is_kept-requires-clause-was c =
    was_there (setting_in c.args.scene.now) (state_in c.args.scene.now) c.args.region c.args.refusals.now c.loop-n.refusals c.loop-n.n c.loop-n.invariant c.args.change.now c.requires.were (omega (arith, c.loop-n-test.true)) (c.is_own.ensures.own c.if-is_own.true).1

pub loop-n-preserved : goal.loop-n-preserved
loop-n-preserved c =
    let s = setting_in c.args.scene.now in let later = state_in c.args.scene.now in let before = c.args.refusals.now in let now = c.loop-n.refusals in let n = c.loop-n.n in
    elim c.else-is_own.branch [
      | else-is_own-via-then-is_own+else-not-is_kept w ↦ subst (λ (m : Refusals). AreKeptBelow s later c.args.region before m (n + 1)) (sym w.refusals-is)
          (one_more_held s later c.args.region before now n c.loop-n.invariant w.is_kept.new.notes w.is_kept.ensures.others (w.is_kept.ensures.kept w.if-not-is_kept.false))
      | else-is_own-via-else-is_own w ↦ subst (λ (m : Refusals). AreKeptBelow s later c.args.region before m (n + 1)) (sym w.refusals-is)
          (one_more_passed s later c.args.region before now n c.loop-n.invariant (c.is_own.ensures.other w.if-is_own.false))
    ]

pub returns-then-not-is_kept-clause-kept : goal.returns-then-not-is_kept-clause-kept
returns-then-not-is_kept-clause-kept c =
    lost_at (setting_in c.args.scene.now) (state_in c.args.scene.now) c.args.region c.args.refusals.now c.loop-n.refusals c.loop-n.n c.loop-n.invariant c.is_kept.new.notes c.is_kept.ensures.others

pub returns-clause-kept : goal.returns-clause-kept
returns-clause-kept c = none_lost (setting_in c.args.scene.now) (state_in c.args.scene.now) c.args.region c.args.refusals.now c.loop-n.refusals c.loop-n.n c.loop-n.invariant (omega (arith, c.loop-n-test.false))
