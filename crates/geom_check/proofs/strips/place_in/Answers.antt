use lib.IntN.{◌+ℤ◌}
use Rattle.geom_check.proofs.Gathering.{under_is, under_most}
use Rattle.geom_check.proofs.strips.place_in.Goals as goal

pub returns-clause-under : goal.returns-clause-under
returns-clause-under c = under_is c.above-above.result c.below-below.result (c.args.strip.now.low +ℤ c.args.strip.now.high) c.args.riser.now c.above-above.ensures.value c.below-below.ensures.value

pub returns-clause-under_small : goal.returns-clause-under_small
returns-clause-under_small c = under_most c.above-above.result c.below-below.result (c.args.strip.now.low +ℤ c.args.strip.now.high) c.args.riser.now c.requires.riser c.above-above.ensures.value c.below-below.ensures.value
