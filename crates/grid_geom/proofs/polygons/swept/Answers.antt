use native.Mathlib.Omega.{arith}
use mathlib.Core.Path.{refl}
use Rattle.std.proofs.lemmas.Int.{ints}
use Rattle.grid_geom.proofs.Within.{minus_back, minus_within, product_of, wider}
use Rattle.grid_geom.proofs.polygons.swept.Goals as goal

pub overflow_sub-result : goal.overflow_sub-result
overflow_sub-result c = omega (arith, ints, c.product.ensures.small, c.product-2.ensures.small)

pub returns-clause-value : goal.returns-clause-value
returns-clause-value c = minus_back c.product.result c.product-2.result _ _ c.product.ensures.small c.product-2.ensures.small
    (product_of c.product.result c.args.a.x c.args.b.y c.args.a.x c.args.b.y c.product.ensures.value (wider c.args.a.x c.requires.a_on.x_within) (wider c.args.b.y c.requires.b_on.y_within) refl refl)
    (product_of c.product-2.result c.args.a.y c.args.b.x c.args.a.y c.args.b.x c.product-2.ensures.value (wider c.args.a.y c.requires.a_on.y_within) (wider c.args.b.x c.requires.b_on.x_within) refl refl)

pub returns-clause-small : goal.returns-clause-small
returns-clause-small c = minus_within c.product.result c.product-2.result c.product.ensures.small c.product-2.ensures.small
