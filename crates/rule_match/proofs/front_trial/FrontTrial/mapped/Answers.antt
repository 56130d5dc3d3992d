use Rattle.rule_match.proofs.Judged.{mapped_is, mapped_near}
use Rattle.rule_match.proofs.front_trial.FrontTrial.mapped.Goals as goal

pub returns-clause-value : goal.returns-clause-value
returns-clause-value c = mapped_is c.args.self.now c.base.result.now c.args.chosen.now c.places.result c.base.ensures.value c.base.ensures.trying c.requires.complete c.requires.fits c.places.ensures

pub returns-clause-range : goal.returns-clause-range
returns-clause-range c = mapped_near c.args.self.now c.base.result.now c.args.chosen.now c.places.result c.base.ensures.value c.base.ensures.trying c.requires.complete c.requires.fits c.places.ensures
