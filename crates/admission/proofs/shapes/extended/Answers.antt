use Rattle.std.proofs.Common.{ℤ, ◌≤ℤ◌, arith}
use Rattle.std.proofs.lemmas.Int.{ints, clamps}
use Rattle.std.specs.Int.{int_max, int_min}
use Rattle.admission.proofs.Spans.{least_within, most_within}
use Rattle.admission.proofs.shapes.extended.Goals as goal

pub returns-clause-on_grid : goal.returns-clause-on_grid
returns-clause-on_grid c = rw (c.box_between.ensures, c.box_between-2.ensures) (record {
  lo = record { x_within = least_within _ _ c.requires.by_on.x_within c.requires.bounds_on.lo.x_within; y_within = least_within _ _ c.requires.by_on.y_within c.requires.bounds_on.lo.y_within };
  hi = record { x_within = most_within _ _ c.requires.by_on.x_within c.requires.bounds_on.hi.x_within; y_within = most_within _ _ c.requires.by_on.y_within c.requires.bounds_on.hi.y_within };
})

low : (u w z : ℤ) → w ≤ℤ z → int_min u w ≤ℤ z
low u w z h = omega (arith, ints, clamps)

low_first : (u w : ℤ) → int_min u w ≤ℤ u
low_first u w = omega (arith, ints, clamps)

high : (u w z : ℤ) → z ≤ℤ w → z ≤ℤ int_max u w
high u w z h = omega (arith, ints, clamps)

high_first : (u w : ℤ) → u ≤ℤ int_max u w
high_first u w = omega (arith, ints, clamps)

pub returns-clause-holds : goal.returns-clause-holds
returns-clause-holds c = rw (c.box_between.ensures, c.box_between-2.ensures) (record { right_of_least = low_first _ _; left_of_greatest = high_first _ _; above_least = low_first _ _; below_greatest = high_first _ _ })

pub returns-clause-keeps : goal.returns-clause-keeps
returns-clause-keeps c = rw (c.box_between.ensures, c.box_between-2.ensures) (λ p h. record { right_of_least = low _ _ _ h.right_of_least; left_of_greatest = high _ _ _ h.left_of_greatest; above_least = low _ _ _ h.above_least; below_greatest = high _ _ _ h.below_greatest })
