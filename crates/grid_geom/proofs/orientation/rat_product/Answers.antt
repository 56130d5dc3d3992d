use Rattle.grid_geom.specs.declared.orientation.TheConstants.{OFFSET, RAT_OFFSET}
use Rattle.grid_geom.proofs.Within.{within_mul, rat_product_is}
use Rattle.grid_geom.proofs.orientation.rat_product.Goals as goal

pub returns-clause-small : goal.returns-clause-small
returns-clause-small c = rw (rat_product_is c.args.a c.args.b c.ranges.a c.requires.a_small c.requires.b_small) (within_mul OFFSET RAT_OFFSET c.args.a c.args.b c.requires.a_small c.requires.b_small)
