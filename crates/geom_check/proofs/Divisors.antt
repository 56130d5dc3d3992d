-- Common divisors of two numbers, one step by a remainder; and the place of a rational point with the least k.
use Rattle.std.proofs.Common.{◌≡◌, ℕ, zero, suc, ◌+◌, ◌*◌, ◌/◌, ◌%◌, ◌<◌, [], ◌∷◌, sym, ◌∙◌, ap, subst, refl, arith}
use lib.IntN.{ℤ, pos, ◌+ℤ◌, ◌-ℤ◌, ◌*ℤ◌}
use lib.Signed.{◌<ℤ◌, ◌≤ℤ◌}
use Rattle.std.proofs.lemmas.Int.{ints}
use Rattle.std.proofs.Math.Nat.{div-add-mod, mul-div_cancel_left}
use Rattle.grid_geom.specs.declared.RatPoint.{RatPoint}
use Rattle.grid_geom.specs.Plane.{IsRational}
use Rattle.grid_geom.proofs.Ring.{var, num, ◌⊕◌, ◌⊖◌, ◌⊗◌, ring}
use Rattle.grid_geom.proofs.Signs.{pos_factor, le_cancel, le_mul}
use Rattle.geom_check.specs.declared.risers.Riser.{Riser}
use Rattle.geom_check.specs.RiserOrder.{over, under}
use Rattle.geom_check.specs.Gaps.{IsDivisor, IsLeastAt, from_corner, middle}
use Rattle.wind_law.specs.Near.{IsSamePlace}
use Rattle.geom_check.specs.declared.limits.TheConstants.{WIDTH}
use Rattle.grid_geom.specs.declared.TheConstants.{GRID}

product : (m n : ℕ) → pos (m * n) ≡ pos m *ℤ pos n
product m n = omega (arith, ints)

pub divisor_zero : (a b : ℕ) → b ≡ 0 → IsDivisor a b a
divisor_zero a b e = record { part_a = 1; part_b = 0; divides_a = omega arith; divides_b = omega arith; times_a = pos 1; times_b = pos 0; sum = omega (arith, ints) }

divided : (a b g p q t r : ℕ) → b * t + r ≡ a → b ≡ g * p → r ≡ g * q → a ≡ g * (p * t + q)
divided a b g p q t r e f h = sym e ∙ ap (λ (n : ℕ). n * t + r) f ∙ ap (λ (n : ℕ). g * p * t + n) h ∙ grouped g p q t
  where
    grouped : (g p q t : ℕ) → g * p * t + g * q ≡ g * (p * t + q)
    grouped g p q t = grind arith

summed : (u v a b t r g : ℤ) → b *ℤ t +ℤ r ≡ a → u *ℤ b +ℤ v *ℤ r ≡ g → v *ℤ a +ℤ (u -ℤ v *ℤ t) *ℤ b ≡ g
summed u v a b t r g e f = ap (λ (n : ℤ). v *ℤ n +ℤ (u -ℤ v *ℤ t) *ℤ b) (sym e) ∙ ring (u ∷ v ∷ b ∷ t ∷ r ∷ []) (var 1 ⊗ (var 2 ⊗ var 3 ⊕ var 4) ⊕ (var 0 ⊖ var 1 ⊗ var 3) ⊗ var 2) (var 0 ⊗ var 2 ⊕ var 1 ⊗ var 4) refl ∙ f

-- one step by a remainder
pub divisor_step : (a b g : ℕ) → IsDivisor b (a % b) g → IsDivisor a b g
divisor_step a b g d = record {
  part_a = d.part_a * (a / b) + d.part_b;
  part_b = d.part_a;
  divides_a = divided a b g d.part_a d.part_b (a / b) (a % b) (div-add-mod a b) d.divides_a d.divides_b;
  divides_b = d.divides_a;
  times_a = d.times_b;
  times_b = d.times_a -ℤ d.times_b *ℤ pos (a / b);
  sum = summed d.times_a d.times_b (pos a) (pos b) (pos (a / b)) (pos (a % b)) (pos g) (whole b (a / b) (a % b) a (div-add-mod a b)) d.sum;
}
  where
    whole : (b t r a : ℕ) → b * t + r ≡ a → pos b *ℤ pos t +ℤ pos r ≡ pos a
    whole b t r a e = omega (arith, ints)

-- ---- numbers without a common divisor
-- a multiple of k above 0 is at least k
multiple : (k z m : ℤ) → k *ℤ z ≡ m → pos 0 <ℤ k → pos 0 <ℤ m → k ≤ℤ m
multiple k z m e h j = subst (λ (n : ℤ). k ≤ℤ n) e (subst (λ (n : ℤ). n ≤ℤ (k *ℤ z)) (once k) (subst (λ (n : ℤ). (pos 1 *ℤ k) ≤ℤ n) (turned z k) (le_mul (pos 1) z k h (more z (pos_factor k z (subst (λ (n : ℤ). pos 0 <ℤ n) (sym e) j) (weak k h))))))
  where
    once : (k : ℤ) → pos 1 *ℤ k ≡ k
    once k = omega (arith, ints)

    turned : (z k : ℤ) → z *ℤ k ≡ k *ℤ z
    turned z k = ring (z ∷ k ∷ []) (var 0 ⊗ var 1) (var 1 ⊗ var 0) refl

    more : (z : ℤ) → pos 0 <ℤ z → pos 1 ≤ℤ z
    more z h = omega (arith, ints)

    weak : (k : ℤ) → pos 0 <ℤ k → pos 0 ≤ℤ k
    weak k h = omega (arith, ints)

-- each other place of a point has a multiple of its k, where its numbers have no common divisor
scaled : (u v w x y k X Y m : ℤ) → u *ℤ x +ℤ v *ℤ y +ℤ w *ℤ k ≡ pos 1 → x *ℤ m ≡ X *ℤ k → y *ℤ m ≡ Y *ℤ k → k *ℤ (u *ℤ X +ℤ v *ℤ Y +ℤ w *ℤ m) ≡ m
scaled u v w x y k X Y m e f g =
    ring (u ∷ v ∷ w ∷ k ∷ X ∷ Y ∷ m ∷ []) (var 3 ⊗ (var 0 ⊗ var 4 ⊕ var 1 ⊗ var 5 ⊕ var 2 ⊗ var 6)) (var 0 ⊗ (var 4 ⊗ var 3) ⊕ var 1 ⊗ (var 5 ⊗ var 3) ⊕ var 2 ⊗ var 3 ⊗ var 6) refl
    ∙ ap (λ (n : ℤ). u *ℤ n +ℤ v *ℤ (Y *ℤ k) +ℤ w *ℤ k *ℤ m) (sym f) ∙ ap (λ (n : ℤ). u *ℤ (x *ℤ m) +ℤ v *ℤ n +ℤ w *ℤ k *ℤ m) (sym g)
    ∙ ring (u ∷ v ∷ w ∷ x ∷ y ∷ k ∷ m ∷ []) (var 0 ⊗ (var 3 ⊗ var 6) ⊕ var 1 ⊗ (var 4 ⊗ var 6) ⊕ var 2 ⊗ var 5 ⊗ var 6) ((var 0 ⊗ var 3 ⊕ var 1 ⊗ var 4 ⊕ var 2 ⊗ var 5) ⊗ var 6) refl ∙ ap (λ (n : ℤ). n *ℤ m) e ∙ once m
  where
    once : (m : ℤ) → pos 1 *ℤ m ≡ m
    once m = omega (arith, ints)

-- a factor on both sides
pub cancelled : (g a b : ℤ) → pos 0 <ℤ g → a *ℤ g ≡ b *ℤ g → a ≡ b
cancelled g a b h e = both a b (le_cancel a b g h (subst (λ (n : ℤ). (a *ℤ g) ≤ℤ n) e (same (a *ℤ g)))) (le_cancel b a g h (subst (λ (n : ℤ). n ≤ℤ (a *ℤ g)) e (same (a *ℤ g))))
  where
    both : (a b : ℤ) → a ≤ℤ b → b ≤ℤ a → a ≡ b
    both a b h j = omega (arith, ints)

    same : (a : ℤ) → a ≤ℤ a
    same a = omega (arith, ints)

-- the numbers of a place, divided by a common divisor that is a sum of their multiples
least_by : (q : RatPoint) (x y k g u v w : ℤ) → pos 0 <ℤ g → pos 0 <ℤ q.k → (q.x +ℤ GRID *ℤ q.k) *ℤ g ≡ x → (q.y +ℤ GRID *ℤ q.k) *ℤ g ≡ y → q.k *ℤ g ≡ k → u *ℤ x +ℤ v *ℤ y +ℤ w *ℤ k ≡ g → (s : RatPoint) → IsRational s → IsSamePlace q s → q.k ≤ℤ s.k
least_by q x y k g u v w hg hk ex ey ek e s rational same =
    multiple q.k (u *ℤ s.x +ℤ v *ℤ s.y +ℤ (w +ℤ GRID *ℤ (u +ℤ v)) *ℤ s.k) s.k (scaled u v (w +ℤ GRID *ℤ (u +ℤ v)) q.x q.y q.k s.x s.y s.k one same.same_x same.same_y) hk rational.positive
  where
    one : u *ℤ q.x +ℤ v *ℤ q.y +ℤ (w +ℤ GRID *ℤ (u +ℤ v)) *ℤ q.k ≡ pos 1
    one = cancelled g _ (pos 1) hg
        (ring (u ∷ v ∷ w ∷ q.x ∷ q.y ∷ q.k ∷ g ∷ []) ((var 0 ⊗ var 3 ⊕ var 1 ⊗ var 4 ⊕ (var 2 ⊕ num GRID ⊗ (var 0 ⊕ var 1)) ⊗ var 5) ⊗ var 6)
        (var 0 ⊗ ((var 3 ⊕ num GRID ⊗ var 5) ⊗ var 6) ⊕ var 1 ⊗ ((var 4 ⊕ num GRID ⊗ var 5) ⊗ var 6) ⊕ var 2 ⊗ (var 5 ⊗ var 6)) refl
        ∙ ap (λ (n : ℤ). u *ℤ n +ℤ v *ℤ ((q.y +ℤ GRID *ℤ q.k) *ℤ g) +ℤ w *ℤ (q.k *ℤ g)) ex ∙ ap (λ (n : ℤ). u *ℤ x +ℤ v *ℤ n +ℤ w *ℤ (q.k *ℤ g)) ey ∙ ap (λ (n : ℤ). u *ℤ x +ℤ v *ℤ y +ℤ w *ℤ n) ek ∙ e ∙ once g)
      where
        once : (g : ℤ) → g ≡ pos 1 *ℤ g
        once g = omega (arith, ints)

-- what a divisor divides without rest
quotient : (x g b : ℕ) → 0 < g → x ≡ g * b → pos (x / g) *ℤ pos g ≡ pos x
quotient x g b h e = sym (product (x / g) g) ∙ ap (λ (n : ℕ). pos n) (ap (λ (n : ℕ). n / g * g) e ∙ ap (λ (n : ℕ). n * g) (mul-div_cancel_left b {n = g} h) ∙ turned b g ∙ sym e)
  where
    turned : (b g : ℕ) → b * g ≡ g * b
    turned b g = grind arith

pub divisor_positive : (k g p : ℕ) → 0 < k → k ≡ g * p → 0 < g
divisor_positive k zero p h e = absurd (omega arith)
divisor_positive k (suc g) p h e = omega arith

divides_both : (x h g a b : ℕ) → x ≡ h * a → h ≡ g * b → x ≡ g * (b * a)
divides_both x h g a b e f = e ∙ ap (λ (n : ℕ). n * a) f ∙ grouped g b a
  where
    grouped : (g b a : ℕ) → g * b * a ≡ g * (b * a)
    grouped g b a = grind arith

pub quotient_positive : (k g p : ℕ) → 0 < k → k ≡ g * p → 0 < k / g
quotient_positive k g p h e = divisor_positive k (k / g) g h (whole (k / g) g k (quotient k g p (divisor_positive k g p h e) e))
  where
    whole : (a b c : ℕ) → pos a *ℤ pos b ≡ pos c → c ≡ a * b
    whole a b c e = omega (arith, ints)

-- the numbers of a place, divided by their common divisor
pub least_at : (x y k g h : ℕ) (q : RatPoint) → 0 < k → IsDivisor x y h → IsDivisor h k g → q.x ≡ pos (x / g) -ℤ GRID *ℤ pos (k / g) → q.y ≡ pos (y / g) -ℤ GRID *ℤ pos (k / g) → q.k ≡ pos (k / g) → IsLeastAt (from_corner x y k) q
least_at x y k g h q hk d f ex ey ek = record {
  rational = record { positive = rational };
  same = record { same_x = place q.x x (x / g) ex x_is; same_y = place q.y y (y / g) ey y_is };
  least = least_by q (pos x) (pos y) (pos k) (pos g) (f.times_a *ℤ d.times_a) (f.times_a *ℤ d.times_b) f.times_b (above g positive) rational (back q.x x (x / g) ex x_is) (back q.y y (y / g) ey y_is) (ap (λ (n : ℤ). n *ℤ pos g) ek ∙ k_is)
      (ring (f.times_a ∷ d.times_a ∷ d.times_b ∷ f.times_b ∷ pos x ∷ pos y ∷ pos k ∷ []) (var 0 ⊗ var 1 ⊗ var 4 ⊕ var 0 ⊗ var 2 ⊗ var 5 ⊕ var 3 ⊗ var 6) (var 0 ⊗ (var 1 ⊗ var 4 ⊕ var 2 ⊗ var 5) ⊕ var 3 ⊗ var 6) refl
      ∙ ap (λ (n : ℤ). f.times_a *ℤ n +ℤ f.times_b *ℤ pos k) d.sum ∙ f.sum);
}
  where
    positive : 0 < g
    positive = divisor_positive k g f.part_b hk f.divides_b

    above : (n : ℕ) → 0 < n → pos 0 <ℤ pos n
    above n h = omega (arith, ints)

    x_is : pos (x / g) *ℤ pos g ≡ pos x
    x_is = quotient x g (f.part_a * d.part_a) positive (divides_both x h g d.part_a f.part_a d.divides_a f.divides_a)

    y_is : pos (y / g) *ℤ pos g ≡ pos y
    y_is = quotient y g (f.part_a * d.part_b) positive (divides_both y h g d.part_b f.part_a d.divides_b f.divides_a)

    k_is : pos (k / g) *ℤ pos g ≡ pos k
    k_is = quotient k g f.part_b positive f.divides_b

    rational : pos 0 <ℤ q.k
    rational = subst (λ (n : ℤ). pos 0 <ℤ n) (sym ek) (above (k / g) (quotient_positive k g f.part_b hk f.divides_b))

    place : (z : ℤ) (n m : ℕ) → z ≡ pos m -ℤ GRID *ℤ pos (k / g) → pos m *ℤ pos g ≡ pos n → z *ℤ pos k ≡ (pos n -ℤ GRID *ℤ pos k) *ℤ q.k
    place z n m e w = ap (λ (a : ℤ). a *ℤ pos k) e ∙ ap (λ (a : ℤ). (pos m -ℤ GRID *ℤ pos (k / g)) *ℤ a) (sym k_is)
        ∙ ring (pos m ∷ pos (k / g) ∷ pos g ∷ []) ((var 0 ⊖ num GRID ⊗ var 1) ⊗ (var 1 ⊗ var 2)) ((var 0 ⊗ var 2 ⊖ num GRID ⊗ (var 1 ⊗ var 2)) ⊗ var 1) refl
        ∙ ap (λ (a : ℤ). (a -ℤ GRID *ℤ (pos (k / g) *ℤ pos g)) *ℤ pos (k / g)) w ∙ ap (λ (a : ℤ). (pos n -ℤ GRID *ℤ a) *ℤ pos (k / g)) k_is ∙ ap (λ (a : ℤ). (pos n -ℤ GRID *ℤ pos k) *ℤ a) (sym ek)

    back : (z : ℤ) (n m : ℕ) → z ≡ pos m -ℤ GRID *ℤ pos (k / g) → pos m *ℤ pos g ≡ pos n → (z +ℤ GRID *ℤ q.k) *ℤ pos g ≡ pos n
    back z n m e w = ap (λ (a : ℤ). (a +ℤ GRID *ℤ q.k) *ℤ pos g) e ∙ ap (λ (a : ℤ). (pos m -ℤ GRID *ℤ pos (k / g) +ℤ GRID *ℤ a) *ℤ pos g) ek
        ∙ ring (pos m ∷ pos (k / g) ∷ pos g ∷ []) ((var 0 ⊖ num GRID ⊗ var 1 ⊕ num GRID ⊗ var 1) ⊗ var 2) (var 0 ⊗ var 2) refl ∙ w

-- ---- the middle between two risers, from the lower left corner of the grid
abbrev place_of : ℤ → ℤ → ℤ → RatPoint
place_of x y k = record { x = x; y = y; k = k }

pub corner_is : (y : ℤ) (r s : Riser) (lo lu ro ru h : ℕ) → pos lo ≡ over y r → pos lu ≡ under r → pos ro ≡ over y s → pos ru ≡ under s → pos h ≡ y +ℤ pos WIDTH → from_corner (lo * ru + ro * lu) (h * (lu * ru)) (2 * (lu * ru)) ≡ middle y r s
corner_is y r s lo lu ro ru h e f g j l =
    ap (λ (n : ℤ). place_of n (pos (h * (lu * ru)) -ℤ GRID *ℤ pos (2 * (lu * ru))) (pos (2 * (lu * ru)))) across
    ∙ ap (λ (n : ℤ). place_of (middle y r s).x n (pos (2 * (lu * ru)))) up ∙ ap (λ (n : ℤ). place_of (middle y r s).x (middle y r s).y n) parts
  where
    doubled : (n : ℕ) → pos (2 * n) ≡ pos 2 *ℤ pos n
    doubled n = omega (arith, ints)

    unders : pos (lu * ru) ≡ under r *ℤ under s
    unders = product lu ru ∙ ap (λ (n : ℤ). n *ℤ pos ru) f ∙ ap (λ (n : ℤ). under r *ℤ n) j

    parts : pos (2 * (lu * ru)) ≡ pos 2 *ℤ (under r *ℤ under s)
    parts = doubled (lu * ru) ∙ ap (λ (n : ℤ). pos 2 *ℤ n) unders

    summed : (m n : ℕ) → pos (m + n) ≡ pos m +ℤ pos n
    summed m n = omega (arith, ints)

    first : pos (lo * ru) ≡ over y r *ℤ under s
    first = product lo ru ∙ ap (λ (n : ℤ). n *ℤ pos ru) e ∙ ap (λ (n : ℤ). over y r *ℤ n) j

    second : pos (ro * lu) ≡ over y s *ℤ under r
    second = product ro lu ∙ ap (λ (n : ℤ). n *ℤ pos lu) g ∙ ap (λ (n : ℤ). over y s *ℤ n) f

    across_by : (t k m n u : ℤ) → t ≡ m +ℤ n → k ≡ pos 2 *ℤ u → t -ℤ GRID *ℤ k ≡ m +ℤ n -ℤ pos WIDTH *ℤ u
    across_by t k m n u e f = omega (arith, ints)

    across : pos (lo * ru + ro * lu) -ℤ GRID *ℤ pos (2 * (lu * ru)) ≡ (middle y r s).x
    across = across_by (pos (lo * ru + ro * lu)) (pos (2 * (lu * ru))) (over y r *ℤ under s) (over y s *ℤ under r) (under r *ℤ under s)
        (summed (lo * ru) (ro * lu) ∙ ap (λ (n : ℤ). n +ℤ pos (ro * lu)) first ∙ ap (λ (n : ℤ). over y r *ℤ under s +ℤ n) second) parts

    up : pos (h * (lu * ru)) -ℤ GRID *ℤ pos (2 * (lu * ru)) ≡ (middle y r s).y
    up = ap (λ (n : ℤ). n -ℤ GRID *ℤ pos (2 * (lu * ru))) (product h (lu * ru) ∙ ap (λ (n : ℤ). n *ℤ pos (lu * ru)) l ∙ ap (λ (n : ℤ). (y +ℤ pos WIDTH) *ℤ n) unders)
        ∙ ap (λ (n : ℤ). (y +ℤ pos WIDTH) *ℤ (under r *ℤ under s) -ℤ GRID *ℤ n) parts
        ∙ ring (y ∷ (under r *ℤ under s) ∷ []) ((var 0 ⊕ num (pos WIDTH)) ⊗ var 1 ⊖ num GRID ⊗ (num (pos 2) ⊗ var 1)) (var 0 ⊗ var 1) refl
