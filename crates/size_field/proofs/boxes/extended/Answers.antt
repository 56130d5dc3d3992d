use Rattle.std.proofs.Common.{◌≡◌, ℤ, ◌≤ℤ◌, arith, to_z, of_z, w64}
use Rattle.std.proofs.lemmas.Int.{ints, clamps}
use Rattle.std.specs.Int.{int_max, int_min}
use Rattle.size_field.proofs.Spans.{least_is, most_is, least_within, most_within}
use Rattle.size_field.proofs.boxes.extended.Goals as goal
use Rattle.size_field.proofs.boxes.extended.Goals.{After-max-2}

lo_x : (c : After-max-2) → to_z w64 (of_z w64 c.min.result) ≡ int_min c.args.bounds.now.lo.x c.args.by.now.x
lo_x c = least_is _ _ _ c.requires.bounds.lo.x_within c.requires.by.x_within c.min.ensures.value

lo_y : (c : After-max-2) → to_z w64 (of_z w64 c.min-2.result) ≡ int_min c.args.bounds.now.lo.y c.args.by.now.y
lo_y c = least_is _ _ _ c.requires.bounds.lo.y_within c.requires.by.y_within c.min-2.ensures.value

hi_x : (c : After-max-2) → to_z w64 (of_z w64 c.max.result) ≡ int_max c.args.bounds.now.hi.x c.args.by.now.x
hi_x c = most_is _ _ _ c.requires.bounds.hi.x_within c.requires.by.x_within c.max.ensures.value

hi_y : (c : After-max-2) → to_z w64 (of_z w64 c.max-2.result) ≡ int_max c.args.bounds.now.hi.y c.args.by.now.y
hi_y c = most_is _ _ _ c.requires.bounds.hi.y_within c.requires.by.y_within c.max-2.ensures.value

pub returns-clause-on_grid : goal.returns-clause-on_grid
returns-clause-on_grid c = rw (lo_x c, lo_y c, hi_x c, hi_y c) (record {
  lo = record { x_within = least_within _ _ c.requires.bounds.lo.x_within c.requires.by.x_within; y_within = least_within _ _ c.requires.bounds.lo.y_within c.requires.by.y_within };
  hi = record { x_within = most_within _ _ c.requires.bounds.hi.x_within c.requires.by.x_within; y_within = most_within _ _ c.requires.bounds.hi.y_within c.requires.by.y_within };
})

low : (u w z : ℤ) → u ≤ℤ z → int_min u w ≤ℤ z
low u w z h = omega (arith, ints, clamps)

low_other : (u w : ℤ) → int_min u w ≤ℤ w
low_other u w = omega (arith, ints, clamps)

high : (u w z : ℤ) → z ≤ℤ u → z ≤ℤ int_max u w
high u w z h = omega (arith, ints, clamps)

high_other : (u w : ℤ) → w ≤ℤ int_max u w
high_other u w = omega (arith, ints, clamps)

pub returns-clause-holds : goal.returns-clause-holds
returns-clause-holds c = rw (lo_x c, lo_y c, hi_x c, hi_y c) (record { left = low_other _ _; right = high_other _ _; below = low_other _ _; above = high_other _ _ })

pub returns-clause-keeps : goal.returns-clause-keeps
returns-clause-keeps c = rw (lo_x c, lo_y c, hi_x c, hi_y c) (λ p h. record { left = low _ _ _ h.left; right = high _ _ _ h.right; below = low _ _ _ h.below; above = high _ _ _ h.above })
