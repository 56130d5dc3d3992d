use Rattle.std.proofs.Common.{◌≡◌, ◌+◌, Bool, false, subst, IsTrue}
use Rattle.mesh_run.specs.RunState.{IsStepped}
use Rattle.mesh_run.specs.Trials.{DoesPay}
use Rattle.mesh_run.proofs.GoesOn.{goes_further}
use Rattle.mesh_run.proofs.TrialsMade.{one_paid}
use Rattle.mesh_run.proofs.run.Run.run.Goals as goal

not_true : (b : Bool) → b ≡ false → IsTrue b → ⊥
not_true b e h = cc

pub loop-self-preserved-in-Applied : goal.loop-self-preserved-in-Applied
loop-self-preserved-in-Applied g c =
    let first = c.args.self.now in let before = c.loop-self.self in let after = c.step.new.self in
    let stepped = subst (IsStepped before.run after.run) c.in-Applied.is c.in_ok-step.ensures.stepped in
    let spent = c.loop-self.steps + before.due in let later = c.step.new.steps + after.due in
    record {
      goes_on = goes_further first.run before.run after.run c.in-Applied.field-0 c.loop-self.invariant.goes_on (λ s. not_true c.is_spent.result c.loop-self-test.true (c.is_spent.ensures.1 s)) stepped;
      paid = one_paid first.run before.run after.run c.in-Applied.field-0 (c.args.steps.now + first.due) spent later c.loop-self.invariant.paid stepped.1
          (subst (DoesPay before.run spent later) c.in-Applied.is c.in_ok-step.ensures.pays);
    }
