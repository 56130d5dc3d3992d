use Rattle.rule_match.proofs.NearPlaces.{boxed}
use Rattle.rule_match.proofs.around.range_box.Goals as goal

pub returns : goal.returns
returns c = boxed c.args.frame.now c.middle-middle.result c.range_of-far.result c.less.result c.less-2.result c.plus.result c.plus-2.result c.middle-middle.ensures.frame c.middle-middle.ensures.value c.range_of-far.ensures.value c.range_of-far.ensures.small
    (record { left = c.less.ensures; below = c.less-2.ensures; right = c.plus.ensures; above = c.plus-2.ensures })
