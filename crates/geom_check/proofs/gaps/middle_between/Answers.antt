use Rattle.std.proofs.Common.{subst}
use lib.IntN.{◌+ℤ◌}
use Rattle.grid_geom.specs.declared.RatPoint.{RatPoint}
use Rattle.geom_check.specs.Gaps.{IsLeastAt}
use Rattle.geom_check.proofs.Divisors.{corner_is}
use Rattle.geom_check.proofs.gaps.middle_between.Goals as goal

pub returns : goal.returns
returns c =
    subst (λ (p : RatPoint). IsLeastAt p c.reduced.result)
    (corner_is (c.args.strip.now.low +ℤ c.args.strip.now.high) c.args.left.now c.args.right.now c.place_in-left.result.over c.place_in-left.result.under c.place_in-right.result.over c.place_in-right.result.under c.height.result
    c.place_in-left.ensures.over c.place_in-left.ensures.under c.place_in-right.ensures.over c.place_in-right.ensures.under c.height.ensures.value)
    c.reduced.ensures
