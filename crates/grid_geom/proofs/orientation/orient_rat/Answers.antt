use native.Mathlib.Omega.{arith}
use lib.IntN.{◌-ℤ◌, ◌*ℤ◌}
use Rattle.std.proofs.lemmas.Int.{ints}
use Rattle.grid_geom.proofs.Within.{rat_minus_back, rat_product_of, rat_offset_of}
use Rattle.grid_geom.proofs.orientation.orient_rat.Goals as goal

pub overflow_sub-result : goal.overflow_sub-result
overflow_sub-result c = omega (arith, ints, c.rat_product.ensures.small, c.rat_product-2.ensures.small)

pub returns : goal.returns
returns c = rat_minus_back c.rat_product.result c.rat_product-2.result _ _ c.rat_product.ensures.small c.rat_product-2.ensures.small
    (rat_product_of c.rat_product.result c.offset.result c.rat_offset.result (c.args.b.x -ℤ c.args.a.x) (c.args.q.now.y -ℤ c.args.a.y *ℤ c.args.q.now.k) c.rat_product.ensures.value c.offset.ensures.small c.rat_offset.ensures.small (omega (arith, ints, c.offset.ensures.value))
    (rat_offset_of c.rat_offset.result c.args.q.now.y c.args.a.y c.args.q.now.k c.rat_offset.ensures.value c.requires.a_on.y_within c.requires.q_small.y_within c.requires.q_small.positive c.requires.q_small.k_within))
    (rat_product_of c.rat_product-2.result c.offset-2.result c.rat_offset-2.result (c.args.b.y -ℤ c.args.a.y) (c.args.q.now.x -ℤ c.args.a.x *ℤ c.args.q.now.k) c.rat_product-2.ensures.value c.offset-2.ensures.small c.rat_offset-2.ensures.small (omega (arith, ints, c.offset-2.ensures.value))
    (rat_offset_of c.rat_offset-2.result c.args.q.now.x c.args.a.x c.args.q.now.k c.rat_offset-2.ensures.value c.requires.a_on.x_within c.requires.q_small.x_within c.requires.q_small.positive c.requires.q_small.k_within))
