use Rattle.std.proofs.Common.{◌≡◌, ◌∙◌, refl, arith}
use Rattle.mesh_run.proofs.LookedAt.{another_pair}
use Rattle.mesh_run.proofs.looked_again.drop_notes.Goals as goal

pub loop-n-init : goal.loop-n-init
loop-n-init c = λ line class h. refl

pub loop-n-preserved : goal.loop-n-preserved
loop-n-preserved c = λ line class h. c.remove-held.ensures.updates.2 (class, line) (another_pair c.loop-n.n c.args.turn.1 c.args.turn.0 (omega (arith, c.loop-n.auto.n)) line class h) ∙ c.loop-n.invariant line class h

pub returns : goal.returns
returns c = λ line class h. c.loop-n.invariant line class h
