use Rattle.std.proofs.lemmas.Int.{to_z-of_z}
use Rattle.grid_geom.specs.declared.orientation.TheConstants.{OFFSET}
use Rattle.grid_geom.proofs.Within.{within_mul, fits_product, back_product}
use Rattle.grid_geom.proofs.orientation.product.Goals as goal

pub overflow_mul-result : goal.overflow_mul-result
overflow_mul-result c = simp (to_z-of_z, c.ranges.a, c.ranges.b) (fits_product c.args.a c.args.b c.requires.a_small c.requires.b_small)

pub returns-clause-value : goal.returns-clause-value
returns-clause-value c = back_product c.args.a c.args.b c.ranges.a c.ranges.b c.requires.a_small c.requires.b_small

pub returns-clause-small : goal.returns-clause-small
returns-clause-small c = rw (back_product c.args.a c.args.b c.ranges.a c.ranges.b c.requires.a_small c.requires.b_small) (within_mul OFFSET OFFSET c.args.a c.args.b c.requires.a_small c.requires.b_small)
