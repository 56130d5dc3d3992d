use native.Mathlib.Omega.{arith}
use lib.IntN.{◌-ℤ◌}
use Rattle.std.proofs.lemmas.Int.{ints}
use Rattle.grid_geom.proofs.Within.{minus_back, minus_within, product_of}
use Rattle.grid_geom.proofs.orientation.turn.Goals as goal

pub overflow_sub-result : goal.overflow_sub-result
overflow_sub-result c = omega (arith, ints, c.product.ensures.small, c.product-2.ensures.small)

pub returns-clause-value : goal.returns-clause-value
returns-clause-value c = minus_back c.product.result c.product-2.result _ _ c.product.ensures.small c.product-2.ensures.small
    (product_of c.product.result c.offset.result c.offset-2.result (c.args.b.x -ℤ c.args.a.x) (c.args.c.y -ℤ c.args.a.y) c.product.ensures.value c.offset.ensures.small c.offset-2.ensures.small (omega (arith, ints, c.offset.ensures.value)) (omega (arith, ints, c.offset-2.ensures.value)))
    (product_of c.product-2.result c.offset-3.result c.offset-4.result (c.args.b.y -ℤ c.args.a.y) (c.args.c.x -ℤ c.args.a.x) c.product-2.ensures.value c.offset-3.ensures.small c.offset-4.ensures.small (omega (arith, ints, c.offset-3.ensures.value)) (omega (arith, ints, c.offset-4.ensures.value)))

pub returns-clause-small : goal.returns-clause-small
returns-clause-small c = minus_within c.product.result c.product-2.result c.product.ensures.small c.product-2.ensures.small
