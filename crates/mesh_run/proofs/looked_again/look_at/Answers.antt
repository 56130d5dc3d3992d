use Rattle.std.proofs.Common.{subst}
use Rattle.mesh_run.specs.Kept.{IsKeptTo}
use Rattle.mesh_run.specs.Remembered.{setting_in, state_in}
use Rattle.mesh_run.proofs.LookedAt.{kept_looked, lost_held, lost_looked}
use Rattle.mesh_run.proofs.looked_again.look_at.Goals as goal

pub returns-in-Some-clause-held : goal.returns-in-Some-clause-held
returns-in-Some-clause-held c =
    lost_held (setting_in c.args.scene.now) (state_in c.args.scene.now) c.args.region c.args.refusals.now c.first_lost.new.refusals c.first_lost.ensures.least c.first_lost.ensures.reaches c.first_lost.ensures.regions c.requires.reaches
    c.in-Some.class c.lower-in-Some.new.refusals c.in-Some.ensures.kept c.lower-in-Some.ensures.lowered

pub returns-in-Some-clause-looked : goal.returns-in-Some-clause-looked
returns-in-Some-clause-looked c =
    lost_looked (setting_in c.args.scene.now) (state_in c.args.scene.now) c.args.region c.args.refusals.now c.first_lost.new.refusals c.first_lost.ensures.least c.first_lost.ensures.reaches c.first_lost.ensures.regions c.requires.reaches
    c.in-Some.class c.lower-in-Some.new.refusals c.in-Some.ensures.kept c.lower-in-Some.ensures.lowered

pub returns-in_default-clause-looked : goal.returns-in_default-clause-looked
returns-in_default-clause-looked c =
    kept_looked (setting_in c.args.scene.now) (state_in c.args.scene.now) c.args.region c.args.refusals.now c.first_lost.new.refusals c.first_lost.ensures.least c.first_lost.ensures.reaches c.first_lost.ensures.regions c.requires.reaches
    (subst (IsKeptTo (setting_in c.args.scene.now) (state_in c.args.scene.now) c.args.region c.args.refusals.now c.first_lost.new.refusals) c.in_default.is c.first_lost.ensures.kept)
