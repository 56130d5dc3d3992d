use Rattle.std.proofs.Common.{◌∙◌, pos, ◌-ℤ◌, ◌*ℤ◌}
use Rattle.rule_match.proofs.Tolerated.{four_less}
use Rattle.rule_match.proofs.leeways.determinant.Goals as goal

pub returns : goal.returns
returns c = four_less c.product.result c.product-2.result c.product.ensures.small c.product-2.ensures.small ∙ (λ i. pos 4 *ℤ c.product.ensures.value i -ℤ c.product-2.ensures.value i)
