-- How often the sides of a box wind round a point, by the half-open crossing rule: once where it is in the box with its lower and left
-- sides and without the others, else 0 times.
use Rattle.std.proofs.Common.{◌≡◌, ◌⊎◌, List, [], ◌∷◌, inl, inr, ◌∙◌, refl, arith}
use lib.IntN.{ℤ, pos, ◌+ℤ◌, ◌-ℤ◌, ◌*ℤ◌}
use lib.Signed.{◌<ℤ◌, ◌≤ℤ◌}
use Rattle.std.proofs.lemmas.Int.{ints}
use Rattle.grid_geom.specs.declared.Point.{Point}
use Rattle.grid_geom.specs.declared.RatPoint.{RatPoint}
use Rattle.grid_geom.specs.declared.Edge.{Edge}
use Rattle.grid_geom.specs.Plane.{orient_rat, IsRational}
use Rattle.grid_geom.specs.Winding.{cross_of, wind}
use Rattle.grid_geom.proofs.Ring.{var, ◌⊖◌, ◌⊗◌, ring}
use Rattle.grid_geom.proofs.Signs.{either, pos_mul, nn_mul, nn_np_mul, pos_mul_neg}
use Rattle.wind_law.specs.Chains.{edge}
use Rattle.wind_law.proofs.HalfOpen.{cross_none, both_above, neither_above, level_edge, rising_left, falling_right}

abbrev at : ℤ → ℤ → Point
at x y = record { x = x; y = y }

-- the point is in the box from (a, c) to (b, d), of which the upper and the right side are left out
pub record IsInHalfOpen (q : RatPoint) (a b c d : ℤ) : Type 0 where
  pub right_of : (a *ℤ q.k) ≤ℤ q.x
  pub left_of : q.x <ℤ (b *ℤ q.k)
  pub above : (c *ℤ q.k) ≤ℤ q.y
  pub below : q.y <ℤ (d *ℤ q.k)

-- the sides of the box, with it on their left: below, above, on the left, on the right
abbrev pub box_sides : ℤ → ℤ → ℤ → ℤ → List Edge
box_sides a b c d = edge (at a c) (at b c) ∷ edge (at b d) (at a d) ∷ edge (at a d) (at a c) ∷ edge (at b c) (at b d) ∷ []

-- the side of an upright edge
beside_upright : (x c d : ℤ) (q : RatPoint) → orient_rat (at x c) (at x d) q ≡ (d -ℤ c) *ℤ (x *ℤ q.k -ℤ q.x)
beside_upright x c d q = ring (x ∷ c ∷ d ∷ q.x ∷ q.y ∷ q.k ∷ []) ((var 0 ⊖ var 0) ⊗ (var 4 ⊖ var 1 ⊗ var 5) ⊖ (var 2 ⊖ var 1) ⊗ (var 3 ⊖ var 0 ⊗ var 5)) ((var 2 ⊖ var 1) ⊗ (var 0 ⊗ var 5 ⊖ var 3)) refl

beside_downright : (x c d : ℤ) (q : RatPoint) → orient_rat (at x d) (at x c) q ≡ (d -ℤ c) *ℤ (q.x -ℤ x *ℤ q.k)
beside_downright x c d q = ring (x ∷ c ∷ d ∷ q.x ∷ q.y ∷ q.k ∷ []) ((var 0 ⊖ var 0) ⊗ (var 4 ⊖ var 2 ⊗ var 5) ⊖ (var 1 ⊖ var 2) ⊗ (var 3 ⊖ var 0 ⊗ var 5)) ((var 2 ⊖ var 1) ⊗ (var 3 ⊖ var 0 ⊗ var 5)) refl

-- what the falling and the rising side add, in the three cases of the point's column
abbrev both_sides : ℤ → ℤ → ℤ → ℤ → ℤ → ℤ
both_sides c d y f r = cross_of d c y f +ℤ cross_of c d y r

left_of_both : (c d y f r : ℤ) → c ≤ℤ y → y <ℤ d → f <ℤ pos 0 → pos 0 <ℤ r → both_sides c d y f r ≡ pos 0
left_of_both c d y f r h j k l = omega (arith, ints, falling_right d c y f k h j, rising_left c d y r l h j)

between_both : (c d y f r : ℤ) → c ≤ℤ y → y <ℤ d → pos 0 ≤ℤ f → pos 0 <ℤ r → both_sides c d y f r ≡ pos 1
between_both c d y f r h j k l = omega (arith, ints, cross_none d c y f (λ a b. absurd (omega (arith, ints))) (λ a b. k), rising_left c d y r l h j)

right_of_both : (c d y f r : ℤ) → c ≤ℤ y → y <ℤ d → pos 0 ≤ℤ f → r ≤ℤ pos 0 → both_sides c d y f r ≡ pos 0
right_of_both c d y f r h j k l = omega (arith, ints, cross_none d c y f (λ a b. absurd (omega (arith, ints))) (λ a b. k), cross_none c d y r (λ a b. l) (λ a b. absurd (omega (arith, ints))))

above_both : (c d y f r : ℤ) → c <ℤ d → d ≤ℤ y → both_sides c d y f r ≡ pos 0
above_both c d y f r h j = omega (arith, ints, neither_above d c y f j (omega (arith, ints)), neither_above c d y r (omega (arith, ints)) j)

below_both : (c d y f r : ℤ) → c <ℤ d → y <ℤ c → both_sides c d y f r ≡ pos 0
below_both c d y f r h j = omega (arith, ints, both_above d c y f (omega (arith, ints)) j, both_above c d y r j (omega (arith, ints)))

-- the winding number of a box's sides is 0, or it is 1 and the point is in the half-open box
pub box_winding : (q : RatPoint) (a b c d : ℤ) → IsRational q → a <ℤ b → c <ℤ d → (wind q (box_sides a b c d) ≡ pos 0) ⊎ ((wind q (box_sides a b c d) ≡ pos 1) × IsInHalfOpen q a b c d)
box_winding q a b c d rational h j =
    let low : ℤ = c *ℤ q.k in
    let high : ℤ = d *ℤ q.k in
    let f : ℤ = orient_rat (at a d) (at a c) q in
    let r : ℤ = orient_rat (at b c) (at b d) q in
    let ordered : low <ℤ high = scaled c d q.k j rational.positive in
    let columns : (a *ℤ q.k) <ℤ (b *ℤ q.k) = scaled a b q.k h rational.positive in
    let f_is : f ≡ (d -ℤ c) *ℤ (q.x -ℤ a *ℤ q.k) = beside_downright a c d q in
    let r_is : r ≡ (d -ℤ c) *ℤ (b *ℤ q.k -ℤ q.x) = beside_upright b c d q in
    let sum : wind q (box_sides a b c d) ≡ both_sides low high q.y f r =
    omega (arith, ints, level_edge low low q.y (orient_rat (at a c) (at b c) q) refl, level_edge high high q.y (orient_rat (at b d) (at a d) q) refl) in
    elim (either low q.y) [
      | inr n ↦ inl (sum ∙ below_both low high q.y f r ordered n)
      | inl above ↦ elim (either high q.y) [
        | inl n ↦ inl (sum ∙ above_both low high q.y f r ordered n)
        | inr below ↦ elim (either (a *ℤ q.k) q.x) [
          | inr n ↦ inl (sum ∙ left_of_both low high q.y f r above below
              (omega (arith, ints, f_is, pos_mul_neg (d -ℤ c) (q.x -ℤ a *ℤ q.k) (omega (arith, ints)) (omega (arith, ints))))
              (omega (arith, ints, r_is, pos_mul (d -ℤ c) (b *ℤ q.k -ℤ q.x) (omega (arith, ints)) (omega (arith, ints)))))
          | inl right ↦ elim (either (b *ℤ q.k) q.x) [
            | inl n ↦ inl (sum ∙ right_of_both low high q.y f r above below
                (omega (arith, ints, f_is, nn_mul (d -ℤ c) (q.x -ℤ a *ℤ q.k) (omega (arith, ints)) (omega (arith, ints))))
                (omega (arith, ints, r_is, nn_np_mul (d -ℤ c) (b *ℤ q.k -ℤ q.x) (omega (arith, ints)) (omega (arith, ints)))))
            | inr left ↦ inr (
              sum ∙ between_both low high q.y f r above below
                  (omega (arith, ints, f_is, nn_mul (d -ℤ c) (q.x -ℤ a *ℤ q.k) (omega (arith, ints)) (omega (arith, ints))))
                  (omega (arith, ints, r_is, pos_mul (d -ℤ c) (b *ℤ q.k -ℤ q.x) (omega (arith, ints)) (omega (arith, ints)))),
              record { right_of = right; left_of = left; above = above; below = below },
            )
          ]
        ]
      ]
    ]
  where
    scaled : (u w k : ℤ) → u <ℤ w → pos 0 <ℤ k → (u *ℤ k) <ℤ (w *ℤ k)
    scaled u w k h j = omega (arith, ints, pos_mul (w -ℤ u) k (omega (arith, ints)) j, times_out u w k)
      where
        times_out : (u w k : ℤ) → (w -ℤ u) *ℤ k ≡ w *ℤ k -ℤ u *ℤ k
        times_out u w k = ring (u ∷ w ∷ k ∷ []) ((var 1 ⊖ var 0) ⊗ var 2) (var 1 ⊗ var 2 ⊖ var 0 ⊗ var 2) refl
