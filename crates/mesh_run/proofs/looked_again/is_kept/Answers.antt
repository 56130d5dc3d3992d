use Rattle.mesh_run.specs.Remembered.{setting_in, state_in}
use Rattle.mesh_run.proofs.LookedAt.{noted_put, others_put}
use Rattle.mesh_run.proofs.Turns.{other_turn}
use Rattle.std.proofs.Common.{sym, ◌∙◌}
use Rattle.mesh_run.proofs.looked_again.is_kept.Goals as goal

pub returns-in-Ok-true-clause-others : goal.returns-in-Ok-true-clause-others
returns-in-Ok-true-clause-others c = λ other d.
    others_put c.remove.new.self c.insert.new.self c.args.turn c.stays_refused.new.notes c.insert.result c.insert.ensures.updates c.insert.ensures.err other d ∙ c.remove.ensures.updates.2 other (other_turn c.args.turn other d)

pub returns-in-Ok-true-clause-kept : goal.returns-in-Ok-true-clause-kept
returns-in-Ok-true-clause-kept c = λ is_put.
    noted_put (setting_in c.args.scene.now) (state_in c.args.scene.now) c.remove.new.self c.insert.new.self c.args.turn c.stays_refused.new.notes c.insert.result (sym c.is_ok.ensures.value ∙ is_put) c.insert.ensures.updates
    (c.in-Ok-true.ensures c.in-Ok-true.field-0-test)

pub returns-in_default-clause-others : goal.returns-in_default-clause-others
returns-in_default-clause-others c = λ other d. c.remove.ensures.updates.2 other (other_turn c.args.turn other d)
