use Rattle.rule_maps.proofs.Reaches.{reach_is}
use Rattle.rule_maps.proofs.reach.reach_from.Goals as goal

pub returns : goal.returns
returns c = rw (c.max-3.ensures, c.div_ceil.ensures, c.max-2.ensures, c.max.ensures, c.farthest-new_points.ensures.value, c.farthest-area.ensures.value, c.farthest-limit.ensures.value, c.as_slice.ensures, c.as_slice-2.ensures, c.as_slice-3.ensures) (reach_is c.args.leeways.now c.args.from c.args.rule.now)
