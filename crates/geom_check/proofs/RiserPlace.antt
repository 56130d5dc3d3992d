-- Where risers cross the middle height of a strip, and their order from left to right.
use lib.IntN.{ℤ, pos, ◌-ℤ◌, ◌*ℤ◌}
use lib.Signed.{◌<ℤ◌}
use mathlib.Core.Path.{◌≡◌, refl, ap, ◌∙◌}
use mathlib.Core.List.{[], ◌∷◌}
use native.Mathlib.Omega.{arith}
use Rattle.std.proofs.lemmas.Int.{ints}
use Rattle.grid_geom.specs.declared.RatPoint.{RatPoint}
use Rattle.grid_geom.specs.Plane.{orient_rat}
use Rattle.grid_geom.proofs.Ring.{var, num, ◌⊕◌, ◌⊖◌, ◌⊗◌, ring}
use Rattle.grid_geom.proofs.Signs.{pos_mul}
use Rattle.geom_check.specs.declared.risers.Riser.{Riser}
use Rattle.geom_check.specs.RiserOrder.{over, under, IsAt, IsAcross, IsWest}
use Rattle.geom_check.specs.Gaps.{middle}
use Rattle.geom_check.specs.declared.limits.TheConstants.{WIDTH}
use Rattle.grid_geom.specs.declared.TheConstants.{GRID}

pub tall : (y : ℤ) (r : Riser) → IsAcross y r → pos 0 <ℤ under r
tall y r h = omega (arith, ints, h.below, h.above)

-- the side of a place at the height y/2
pub side_at : (y : ℤ) (r : Riser) (q : RatPoint) → IsAt y q → pos 2 *ℤ orient_rat r.a r.b q ≡ q.k *ℤ (over y r -ℤ GRID *ℤ under r) -ℤ under r *ℤ q.x
side_at y r q e = first ∙ ap (λ (z : ℤ). (r.b.x -ℤ r.a.x) *ℤ (z -ℤ pos 2 *ℤ (r.a.y *ℤ q.k)) -ℤ under r *ℤ (q.x -ℤ r.a.x *ℤ q.k)) e ∙ second
  where
    first : pos 2 *ℤ orient_rat r.a r.b q ≡ (r.b.x -ℤ r.a.x) *ℤ (pos 2 *ℤ q.y -ℤ pos 2 *ℤ (r.a.y *ℤ q.k)) -ℤ under r *ℤ (q.x -ℤ r.a.x *ℤ q.k)
    first = ring (r.a.x ∷ r.a.y ∷ r.b.x ∷ r.b.y ∷ q.x ∷ q.y ∷ q.k ∷ [])
        (num (pos 2) ⊗ ((var 2 ⊖ var 0) ⊗ (var 5 ⊖ var 1 ⊗ var 6) ⊖ (var 3 ⊖ var 1) ⊗ (var 4 ⊖ var 0 ⊗ var 6)))
        ((var 2 ⊖ var 0) ⊗ (num (pos 2) ⊗ var 5 ⊖ num (pos 2) ⊗ (var 1 ⊗ var 6)) ⊖ num (pos 2) ⊗ (var 3 ⊖ var 1) ⊗ (var 4 ⊖ var 0 ⊗ var 6)) refl

    second : (r.b.x -ℤ r.a.x) *ℤ (y *ℤ q.k -ℤ pos 2 *ℤ (r.a.y *ℤ q.k)) -ℤ under r *ℤ (q.x -ℤ r.a.x *ℤ q.k) ≡ q.k *ℤ (over y r -ℤ GRID *ℤ under r) -ℤ under r *ℤ q.x
    second = ring (r.a.x ∷ r.a.y ∷ r.b.x ∷ r.b.y ∷ q.x ∷ q.k ∷ y ∷ [])
        ((var 2 ⊖ var 0) ⊗ (var 6 ⊗ var 5 ⊖ num (pos 2) ⊗ (var 1 ⊗ var 5)) ⊖ num (pos 2) ⊗ (var 3 ⊖ var 1) ⊗ (var 4 ⊖ var 0 ⊗ var 5))
        (var 5 ⊗ ((var 0 ⊕ num GRID) ⊗ (num (pos 2) ⊗ var 3 ⊖ var 6) ⊕ (var 2 ⊕ num GRID) ⊗ (var 6 ⊖ num (pos 2) ⊗ var 1) ⊖ num GRID ⊗ (num (pos 2) ⊗ (var 3 ⊖ var 1))) ⊖ num (pos 2) ⊗ (var 3 ⊖ var 1) ⊗ var 4) refl

pub middle_at : (y : ℤ) (r s : Riser) → IsAt y (middle y r s)
middle_at y r s = ring (y ∷ under r ∷ under s ∷ []) (num (pos 2) ⊗ (var 0 ⊗ (var 1 ⊗ var 2))) (var 0 ⊗ (num (pos 2) ⊗ (var 1 ⊗ var 2))) refl

pub middle_k : (y : ℤ) (r s : Riser) → IsAcross y r → IsAcross y s → pos 0 <ℤ (middle y r s).k
middle_k y r s h j = omega (arith, ints, pos_mul (under r) (under s) (tall y r h) (tall y s j))

-- the middle, beside the second and beside the first
pub beside_second : (y : ℤ) (r s : Riser) → pos 2 *ℤ orient_rat s.a s.b (middle y r s) ≡ under s *ℤ (over y s *ℤ under r -ℤ over y r *ℤ under s)
beside_second y r s = side_at y s (middle y r s) (middle_at y r s)
    ∙ ring (over y r ∷ over y s ∷ under r ∷ under s ∷ [])
    (num (pos 2) ⊗ (var 2 ⊗ var 3) ⊗ (var 1 ⊖ num GRID ⊗ var 3) ⊖ var 3 ⊗ (var 0 ⊗ var 3 ⊕ var 1 ⊗ var 2 ⊖ num (pos WIDTH) ⊗ (var 2 ⊗ var 3)))
    (var 3 ⊗ (var 1 ⊗ var 2 ⊖ var 0 ⊗ var 3)) refl

pub beside_first : (y : ℤ) (r s : Riser) → pos 2 *ℤ orient_rat r.a r.b (middle y r s) ≡ pos 0 -ℤ under r *ℤ (over y s *ℤ under r -ℤ over y r *ℤ under s)
beside_first y r s = side_at y r (middle y r s) (middle_at y r s)
    ∙ ring (over y r ∷ over y s ∷ under r ∷ under s ∷ [])
    (num (pos 2) ⊗ (var 2 ⊗ var 3) ⊗ (var 0 ⊖ num GRID ⊗ var 2) ⊖ var 2 ⊗ (var 0 ⊗ var 3 ⊕ var 1 ⊗ var 2 ⊖ num (pos WIDTH) ⊗ (var 2 ⊗ var 3)))
    (num (pos 0) ⊖ var 2 ⊗ (var 1 ⊗ var 2 ⊖ var 0 ⊗ var 3)) refl

halved : (m n p : ℤ) → pos 2 *ℤ m ≡ n → n ≡ p → pos 0 <ℤ p → pos 0 <ℤ m
halved m n p e f h = omega (arith, ints)

halved_below : (m n p : ℤ) → pos 2 *ℤ m ≡ n → n ≡ pos 0 -ℤ p → pos 0 <ℤ p → m <ℤ pos 0
halved_below m n p e f h = omega (arith, ints)

pub middle_left : (y : ℤ) (r s : Riser) → IsAcross y s → IsWest y r s → pos 0 <ℤ orient_rat s.a s.b (middle y r s)
middle_left y r s j w = halved _ _ (under s *ℤ (over y s *ℤ under r -ℤ over y r *ℤ under s)) (beside_second y r s) refl (pos_mul (under s) (over y s *ℤ under r -ℤ over y r *ℤ under s) (tall y s j) (above (over y r *ℤ under s) (over y s *ℤ under r) w))
  where
    above : (m n : ℤ) → m <ℤ n → pos 0 <ℤ (n -ℤ m)
    above m n h = omega (arith, ints)

pub middle_right : (y : ℤ) (r s : Riser) → IsAcross y r → IsWest y r s → orient_rat r.a r.b (middle y r s) <ℤ pos 0
middle_right y r s h w = halved_below _ _ (under r *ℤ (over y s *ℤ under r -ℤ over y r *ℤ under s)) (beside_first y r s) refl (pos_mul (under r) (over y s *ℤ under r -ℤ over y r *ℤ under s) (tall y r h) (above (over y r *ℤ under s) (over y s *ℤ under r) w))
  where
    above : (m n : ℤ) → m <ℤ n → pos 0 <ℤ (n -ℤ m)
    above m n h = omega (arith, ints)
