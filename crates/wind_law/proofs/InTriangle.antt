-- A triangle winds once round each point in it: the low-to-high steps round its corners, as seen from the point, are one, since not all corners are higher than it and not all lower.
-- Stands on HalfOpen, and on grid_geom's Triangle for the heights.
use lib.IntN.{ℤ, pos, ◌+ℤ◌, ◌*ℤ◌}
use mathlib.Core.Path.{◌≡◌}
use mathlib.Core.List.{[], ◌∷◌}
use mathlib.Core.Logic.{◌⊎◌, inl, inr}
use native.Mathlib.Omega.{arith}
use Rattle.std.proofs.lemmas.Int.{ints}
use Rattle.grid_geom.specs.declared.Point.{Point}
use Rattle.grid_geom.specs.declared.RatPoint.{RatPoint}
use Rattle.grid_geom.specs.Plane.{orient_rat, IsRational}
use Rattle.grid_geom.specs.Sides.{IsInTriangle}
use Rattle.grid_geom.specs.Polygon.{sides}
use Rattle.grid_geom.specs.Winding.{wind}
use Rattle.grid_geom.proofs.Triangle.{not_all_higher, not_all_lower}
use Rattle.grid_geom.proofs.Signs.{either}
use Rattle.wind_law.proofs.HalfOpen.{both_above, neither_above, rising_left, falling_left}

one : (x y z : ℤ) → ((x ≡ pos 1) × (y ≡ pos 0) × (z ≡ pos 0)) ⊎ (((x ≡ pos 0) × (y ≡ pos 1) × (z ≡ pos 0)) ⊎ ((x ≡ pos 0) × (y ≡ pos 0) × (z ≡ pos 1))) → x +ℤ (y +ℤ (z +ℤ pos 0)) ≡ pos 1
one x y z h = omega (arith, ints)

pub wind_in_triangle : (a b c : Point) (q : RatPoint) → IsRational q → IsInTriangle q a b c → wind q (sides (a ∷ b ∷ c ∷ [])) ≡ pos 1
wind_in_triangle a b c q kq t = elim (either (a.y *ℤ q.k) q.y) [
  | inl l ↦ elim (either (b.y *ℤ q.k) q.y) [
    | inl m ↦ elim (either (c.y *ℤ q.k) q.y) [
      | inl n ↦ absurd (not_all_lower a b c q kq.positive t l m n)
      | inr n ↦ one _ _ _ (inr (inl (neither_above _ _ _ (orient_rat a b q) l m, rising_left _ _ _ (orient_rat b c q) t.left_of_second m n, falling_left _ _ _ (orient_rat c a q) t.left_of_third l n)))
    ]
    | inr m ↦ elim (either (c.y *ℤ q.k) q.y) [
      | inl n ↦ one _ _ _ (inl (rising_left _ _ _ (orient_rat a b q) t.left_of_first l m, falling_left _ _ _ (orient_rat b c q) t.left_of_second n m, neither_above _ _ _ (orient_rat c a q) n l))
      | inr n ↦ one _ _ _ (inl (rising_left _ _ _ (orient_rat a b q) t.left_of_first l m, both_above _ _ _ (orient_rat b c q) m n, falling_left _ _ _ (orient_rat c a q) t.left_of_third l n))
    ]
  ]
  | inr l ↦ elim (either (b.y *ℤ q.k) q.y) [
    | inl m ↦ elim (either (c.y *ℤ q.k) q.y) [
      | inl n ↦ one _ _ _ (inr (inr (falling_left _ _ _ (orient_rat a b q) t.left_of_first m l, neither_above _ _ _ (orient_rat b c q) m n, rising_left _ _ _ (orient_rat c a q) t.left_of_third n l)))
      | inr n ↦ one _ _ _ (inr (inl (falling_left _ _ _ (orient_rat a b q) t.left_of_first m l, rising_left _ _ _ (orient_rat b c q) t.left_of_second m n, both_above _ _ _ (orient_rat c a q) n l)))
    ]
    | inr m ↦ elim (either (c.y *ℤ q.k) q.y) [
      | inl n ↦ one _ _ _ (inr (inr (both_above _ _ _ (orient_rat a b q) l m, falling_left _ _ _ (orient_rat b c q) t.left_of_second n m, rising_left _ _ _ (orient_rat c a q) t.left_of_third n l)))
      | inr n ↦ absurd (not_all_higher a b c q t l m n)
    ]
  ]
]
