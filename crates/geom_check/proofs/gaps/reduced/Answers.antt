use Rattle.std.proofs.Common.{◌≡◌, ℕ, ℤ, ◌≤◌, ◌/◌, pos, ◌∙◌, arith, SFits, to_z, of_z}
use Rattle.std.specs.Int.{w128}
use Rattle.std.proofs.lemmas.Int.{ints, to_z-of_z}
use Rattle.std.proofs.Math.Nat.{div-le_self}
use Rattle.geom_check.proofs.Divisors.{least_at}
use Rattle.geom_check.proofs.gaps.reduced.Goals as goal
use Rattle.geom_check.specs.declared.limits.TheConstants.{MOST_COMMON}

back : (z : ℤ) → SFits w128 z → to_z w128 (of_z w128 z) ≡ z
back z f = to_z-of_z w128 z f

small : (n : ℕ) → n ≤ MOST_COMMON → to_z w128 n ≡ pos n
small n h = omega (arith, ints)

pub returns : goal.returns
returns c = least_at c.args.x c.args.y c.args.k c.divisor-common.result c.divisor.result _ c.requires.positive c.divisor.ensures c.divisor-common.ensures
    (back c.from_middle.result (record { sfits = c.from_middle.type_inv }) ∙ c.from_middle.ensures)
    (back c.from_middle-2.result (record { sfits = c.from_middle-2.type_inv }) ∙ c.from_middle-2.ensures)
    (small (c.args.k / c.divisor-common.result) (omega (arith, div-le_self c.args.k c.divisor-common.result, c.requires.k_small)))
