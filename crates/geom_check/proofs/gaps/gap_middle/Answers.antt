use Rattle.geom_check.proofs.Nearest.{has_nearest}
use Rattle.geom_check.proofs.gaps.gap_middle.Goals as goal

pub unreachable-requires : goal.unreachable-requires
unreachable-requires c = has_nearest c.args.strip.now.low c.args.strip.now.high c.args.risers.now c.args.left.now c.requires.end c.in-None.ensures
