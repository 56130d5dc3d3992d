-- What is within four heights of the middle has local coordinates of at most 11, so of at most 13. With X and Y the extents of the base line,
-- X + Y is at most twice its length; so 2 |dot| is at most 8 h (X + Y) + (X X + Y Y) + (X + Y), which is at most 22 q. Stands on Frames.
use lib.IntN.{ℤ, pos, ◌+ℤ◌, ◌-ℤ◌, ◌*ℤ◌}
use lib.Signed.{◌<ℤ◌, ◌≤ℤ◌}
use mathlib.Core.Path.{◌≡◌, refl, sym, ap, ◌∙◌, subst}
use mathlib.Core.List.{[], ◌∷◌}
use mathlib.Core.Logic.{inl, inr}
use native.Mathlib.Omega.{arith}
use Rattle.std.specs.Int.{int_max}
use Rattle.std.proofs.lemmas.Int.{ints, int_max_is}
use Rattle.grid_geom.specs.declared.Point.{Point}
use Rattle.grid_geom.specs.Bounds.{IsWithin}
use Rattle.grid_geom.proofs.Ring.{var, num, ◌⊕◌, ◌⊖◌, ◌⊗◌, ring}
use Rattle.grid_geom.proofs.Signs.{nn_mul, np_mul, either}
use Rattle.grid_geom.proofs.Within.{within_mul}
use Rattle.rule_maps.specs.Fractions.{IsFraction, IsWithinOf}
use Rattle.rule_maps.specs.Frame.{LocalFrame, IsFrame, IsInRange, way, dot, cross, local_x, local_y}
use Rattle.rule_maps.proofs.Numbers.{within_add, within_sub, root_at_most}
use Rattle.rule_maps.proofs.Frames.{HasBounds, frame_bounds}

-- ---- the extents of a way
abbrev pub size_of : ℤ → ℤ
size_of z = int_max z (pos 0 -ℤ z)

pub size_within : (z : ℤ) → IsWithin (size_of z) z
size_within z = record { least = omega (arith, ints, int_max_is z (pos 0 -ℤ z)); greatest = omega (arith, ints, int_max_is z (pos 0 -ℤ z)) }

pub size_positive : (z : ℤ) → pos 0 ≤ℤ size_of z
size_positive z = omega (arith, ints, int_max_is z (pos 0 -ℤ z))

pub size_square : (z : ℤ) → size_of z *ℤ size_of z ≡ z *ℤ z
size_square z = elim (either (pos 0) z) [
  | inl i ↦ ap (λ (m : ℤ). m *ℤ m) (same i)
  | inr i ↦ ap (λ (m : ℤ). m *ℤ m) (turned i) ∙ ring (z ∷ []) ((num (pos 0) ⊖ var 0) ⊗ (num (pos 0) ⊖ var 0)) (var 0 ⊗ var 0) refl
]
  where
    same : pos 0 ≤ℤ z → size_of z ≡ z
    same i = omega (arith, ints, i, int_max_is z (pos 0 -ℤ z))

    turned : z <ℤ pos 0 → size_of z ≡ pos 0 -ℤ z
    turned i = omega (arith, ints, i, int_max_is z (pos 0 -ℤ z))

pub squares_of : (f : LocalFrame) → size_of f.e.x *ℤ size_of f.e.x +ℤ size_of f.e.y *ℤ size_of f.e.y ≡ dot f.e f.e
squares_of f = rw (size_square f.e.x, size_square f.e.y) refl

-- x and y are the extents of a base line of length len and height h
pub record IsExtent (len h x y : ℤ) : Type 0 where
  pub x_positive : pos 0 ≤ℤ x
  pub y_positive : pos 0 ≤ℤ y
  pub long : pos 1 ≤ℤ len
  pub high : pos 1 ≤ℤ h
  pub half_length : len ≤ℤ (pos 2 *ℤ h)
  pub least : (len *ℤ len) ≤ℤ (x *ℤ x +ℤ y *ℤ y)
  pub greatest : (x *ℤ x +ℤ y *ℤ y) <ℤ ((len +ℤ pos 1) *ℤ (len +ℤ pos 1))

pub extent_of_frame : (f : LocalFrame) → HasBounds f → IsExtent f.len f.h (size_of f.e.x) (size_of f.e.y)
extent_of_frame f b = record {
  x_positive = size_positive f.e.x;
  y_positive = size_positive f.e.y;
  long = b.long;
  high = b.high.least;
  half_length = b.half_length;
  least = subst (λ (z : ℤ). (f.len *ℤ f.len) ≤ℤ z) (sym (squares_of f)) b.square.least;
  greatest = subst (λ (z : ℤ). z <ℤ ((f.len +ℤ pos 1) *ℤ (f.len +ℤ pos 1))) (sym (squares_of f)) b.square.greatest;
}

either_sign : (z : ℤ) → pos 0 ≤ℤ (z *ℤ z)
either_sign z = elim (either (pos 0) z) [ inl i ↦ nn_mul z z i i | inr i ↦ np_mul z z (omega (arith, ints, i)) (omega (arith, ints, i)) ]

squared_more : (len : ℤ) → (len +ℤ pos 1) *ℤ (len +ℤ pos 1) ≡ len *ℤ len +ℤ pos 2 *ℤ len +ℤ pos 1
squared_more len = ring (len ∷ []) ((var 0 ⊕ num (pos 1)) ⊗ (var 0 ⊕ num (pos 1))) (var 0 ⊗ var 0 ⊕ num (pos 2) ⊗ var 0 ⊕ num (pos 1)) refl

gap : (x y : ℤ) → (x -ℤ y) *ℤ (x -ℤ y) ≡ x *ℤ x -ℤ pos 2 *ℤ (x *ℤ y) +ℤ y *ℤ y
gap x y = ring (x ∷ y ∷ []) ((var 0 ⊖ var 1) ⊗ (var 0 ⊖ var 1)) (var 0 ⊗ var 0 ⊖ num (pos 2) ⊗ (var 0 ⊗ var 1) ⊕ var 1 ⊗ var 1) refl

-- the extents together are at most twice the length
pub extents_short : (len h x y : ℤ) → IsExtent len h x y → (x +ℤ y) ≤ℤ (pos 2 *ℤ len)
extents_short len h x y k = root_at_most ((x +ℤ y) *ℤ (x +ℤ y)) (x +ℤ y) (pos 2 *ℤ len) (omega (arith, ints, k.x_positive, k.y_positive)) (omega (arith, ints, k.long)) (omega (arith, ints))
    (omega (arith, ints, summed, gap x y, either_sign (x -ℤ y), k.greatest, squared_more len, twice, nn_mul len len (omega (arith, ints, k.long)) (omega (arith, ints, k.long))))
  where
    summed : (x +ℤ y) *ℤ (x +ℤ y) ≡ x *ℤ x +ℤ pos 2 *ℤ (x *ℤ y) +ℤ y *ℤ y
    summed = ring (x ∷ y ∷ []) ((var 0 ⊕ var 1) ⊗ (var 0 ⊕ var 1)) (var 0 ⊗ var 0 ⊕ num (pos 2) ⊗ (var 0 ⊗ var 1) ⊕ var 1 ⊗ var 1) refl

    twice : (pos 2 *ℤ len +ℤ pos 1) *ℤ (pos 2 *ℤ len +ℤ pos 1) ≡ pos 4 *ℤ (len *ℤ len) +ℤ pos 4 *ℤ len +ℤ pos 1
    twice = ring (len ∷ []) ((num (pos 2) ⊗ var 0 ⊕ num (pos 1)) ⊗ (num (pos 2) ⊗ var 0 ⊕ num (pos 1))) (num (pos 4) ⊗ (var 0 ⊗ var 0) ⊕ num (pos 4) ⊗ var 0 ⊕ num (pos 1)) refl

-- 8 h (x + y) + (x x + y y) + (x + y) is at most 22 len h
pub far_sum : (len h x y : ℤ) → IsExtent len h x y → (pos 8 *ℤ (h *ℤ (x +ℤ y)) +ℤ (x *ℤ x +ℤ y *ℤ y) +ℤ (x +ℤ y)) ≤ℤ (pos 22 *ℤ (len *ℤ h))
far_sum len h x y k = omega (arith, ints, k.greatest, squared_more len, extents_short len h x y k, wide, higher, longer)
  where
    wide : (h *ℤ (x +ℤ y)) ≤ℤ (pos 2 *ℤ (len *ℤ h))
    wide = omega (arith, ints, ring (len ∷ h ∷ (x +ℤ y) ∷ []) (var 1 ⊗ (num (pos 2) ⊗ var 0 ⊖ var 2)) (num (pos 2) ⊗ (var 0 ⊗ var 1) ⊖ var 1 ⊗ var 2) refl, nn_mul h (pos 2 *ℤ len -ℤ (x +ℤ y)) (omega (arith, ints, k.high)) (omega (arith, ints, extents_short len h x y k)))

    higher : (len *ℤ len) ≤ℤ (pos 2 *ℤ (len *ℤ h))
    higher = omega (arith, ints, ring (len ∷ h ∷ []) (var 0 ⊗ (num (pos 2) ⊗ var 1 ⊖ var 0)) (num (pos 2) ⊗ (var 0 ⊗ var 1) ⊖ var 0 ⊗ var 0) refl, nn_mul len (pos 2 *ℤ h -ℤ len) (omega (arith, ints, k.long)) (omega (arith, ints, k.half_length)))

    longer : len ≤ℤ (len *ℤ h)
    longer = omega (arith, ints, ring (len ∷ h ∷ []) (var 0 ⊗ (var 1 ⊖ num (pos 1))) (var 0 ⊗ var 1 ⊖ var 0) refl, nn_mul len (h -ℤ pos 1) (omega (arith, ints, k.long)) (omega (arith, ints, k.high)))

-- ---- a point in range
-- twice how far it is from the line's start, in one coordinate
pub offset_within : (h x s m e p : ℤ) → IsWithin x e → IsWithin (pos 1) (pos 2 *ℤ s +ℤ e -ℤ pos 2 *ℤ m) → IsWithin (pos 4 *ℤ h) (p -ℤ m) → IsWithin (pos 8 *ℤ h +ℤ x +ℤ pos 1) (pos 2 *ℤ (p -ℤ s))
offset_within h x s m e p a b c = record { least = omega (arith, ints, a.least, a.greatest, b.least, b.greatest, c.least); greatest = omega (arith, ints, a.least, a.greatest, b.least, b.greatest, c.greatest) }

halve : (m n z : ℤ) → IsWithin m (pos 2 *ℤ z) → m ≤ℤ (pos 22 *ℤ n) → pos 0 ≤ℤ n → IsWithin (pos 13 *ℤ n) z
halve m n z h j k = record { least = omega (arith, ints, h.least, j, k); greatest = omega (arith, ints, h.greatest, j, k) }

pub along_in_range : (f : LocalFrame) (p : Point) → IsFrame f → IsInRange f p → IsWithin (pos 13 *ℤ f.q) (dot f.e (way f.p1 p))
along_in_range f p k r = let b : HasBounds f = frame_bounds f k in let t : IsExtent f.len f.h (size_of f.e.x) (size_of f.e.y) = extent_of_frame f b in
    halve (size_of f.e.x *ℤ (pos 8 *ℤ f.h +ℤ size_of f.e.x +ℤ pos 1) +ℤ size_of f.e.y *ℤ (pos 8 *ℤ f.h +ℤ size_of f.e.y +ℤ pos 1)) f.q (dot f.e (way f.p1 p))
    (subst (λ (z : ℤ). IsWithin (size_of f.e.x *ℤ (pos 8 *ℤ f.h +ℤ size_of f.e.x +ℤ pos 1) +ℤ size_of f.e.y *ℤ (pos 8 *ℤ f.h +ℤ size_of f.e.y +ℤ pos 1)) z) (twice f.e.x f.e.y (p.x -ℤ f.p1.x) (p.y -ℤ f.p1.y))
    (within_add (size_of f.e.x *ℤ (pos 8 *ℤ f.h +ℤ size_of f.e.x +ℤ pos 1)) (size_of f.e.y *ℤ (pos 8 *ℤ f.h +ℤ size_of f.e.y +ℤ pos 1)) (f.e.x *ℤ (pos 2 *ℤ (p.x -ℤ f.p1.x))) (f.e.y *ℤ (pos 2 *ℤ (p.y -ℤ f.p1.y)))
    (within_mul (size_of f.e.x) (pos 8 *ℤ f.h +ℤ size_of f.e.x +ℤ pos 1) f.e.x (pos 2 *ℤ (p.x -ℤ f.p1.x)) (size_within f.e.x) (offset_within f.h (size_of f.e.x) f.p1.x f.middle.x f.e.x p.x (size_within f.e.x) b.middle_x r.columns))
    (within_mul (size_of f.e.y) (pos 8 *ℤ f.h +ℤ size_of f.e.y +ℤ pos 1) f.e.y (pos 2 *ℤ (p.y -ℤ f.p1.y)) (size_within f.e.y) (offset_within f.h (size_of f.e.y) f.p1.y f.middle.y f.e.y p.y (size_within f.e.y) b.middle_y r.rows))))
    (subst (λ (q : ℤ). (size_of f.e.x *ℤ (pos 8 *ℤ f.h +ℤ size_of f.e.x +ℤ pos 1) +ℤ size_of f.e.y *ℤ (pos 8 *ℤ f.h +ℤ size_of f.e.y +ℤ pos 1)) ≤ℤ (pos 22 *ℤ q)) (sym b.unit) (ordered f.h (size_of f.e.x) (size_of f.e.y) (far_sum f.len f.h (size_of f.e.x) (size_of f.e.y) t)))
    (omega (arith, ints, b.unit_least))
  where
    twice : (a b c d : ℤ) → a *ℤ (pos 2 *ℤ c) +ℤ b *ℤ (pos 2 *ℤ d) ≡ pos 2 *ℤ (a *ℤ c +ℤ b *ℤ d)
    twice a b c d = ring (a ∷ b ∷ c ∷ d ∷ []) (var 0 ⊗ (num (pos 2) ⊗ var 2) ⊕ var 1 ⊗ (num (pos 2) ⊗ var 3)) (num (pos 2) ⊗ (var 0 ⊗ var 2 ⊕ var 1 ⊗ var 3)) refl

    ordered : (h x y : ℤ) {n : ℤ} → (pos 8 *ℤ (h *ℤ (x +ℤ y)) +ℤ (x *ℤ x +ℤ y *ℤ y) +ℤ (x +ℤ y)) ≤ℤ n → (x *ℤ (pos 8 *ℤ h +ℤ x +ℤ pos 1) +ℤ y *ℤ (pos 8 *ℤ h +ℤ y +ℤ pos 1)) ≤ℤ n
    ordered h x y {n} i = subst (λ (z : ℤ). z ≤ℤ n) (ring (h ∷ x ∷ y ∷ []) (num (pos 8) ⊗ (var 0 ⊗ (var 1 ⊕ var 2)) ⊕ (var 1 ⊗ var 1 ⊕ var 2 ⊗ var 2) ⊕ (var 1 ⊕ var 2)) (var 1 ⊗ (num (pos 8) ⊗ var 0 ⊕ var 1 ⊕ num (pos 1)) ⊕ var 2 ⊗ (num (pos 8) ⊗ var 0 ⊕ var 2 ⊕ num (pos 1))) refl) i

pub left_in_range : (f : LocalFrame) (p : Point) → IsFrame f → IsInRange f p → IsWithin (pos 13 *ℤ f.q) (cross f.e (way f.p1 p))
left_in_range f p k r = let b : HasBounds f = frame_bounds f k in let t : IsExtent f.len f.h (size_of f.e.x) (size_of f.e.y) = extent_of_frame f b in
    halve (size_of f.e.x *ℤ (pos 8 *ℤ f.h +ℤ size_of f.e.y +ℤ pos 1) +ℤ size_of f.e.y *ℤ (pos 8 *ℤ f.h +ℤ size_of f.e.x +ℤ pos 1)) f.q (cross f.e (way f.p1 p))
    (subst (λ (z : ℤ). IsWithin (size_of f.e.x *ℤ (pos 8 *ℤ f.h +ℤ size_of f.e.y +ℤ pos 1) +ℤ size_of f.e.y *ℤ (pos 8 *ℤ f.h +ℤ size_of f.e.x +ℤ pos 1)) z) (twice f.e.x f.e.y (p.x -ℤ f.p1.x) (p.y -ℤ f.p1.y))
    (within_sub (size_of f.e.x *ℤ (pos 8 *ℤ f.h +ℤ size_of f.e.y +ℤ pos 1)) (size_of f.e.y *ℤ (pos 8 *ℤ f.h +ℤ size_of f.e.x +ℤ pos 1)) (f.e.x *ℤ (pos 2 *ℤ (p.y -ℤ f.p1.y))) (f.e.y *ℤ (pos 2 *ℤ (p.x -ℤ f.p1.x)))
    (within_mul (size_of f.e.x) (pos 8 *ℤ f.h +ℤ size_of f.e.y +ℤ pos 1) f.e.x (pos 2 *ℤ (p.y -ℤ f.p1.y)) (size_within f.e.x) (offset_within f.h (size_of f.e.y) f.p1.y f.middle.y f.e.y p.y (size_within f.e.y) b.middle_y r.rows))
    (within_mul (size_of f.e.y) (pos 8 *ℤ f.h +ℤ size_of f.e.x +ℤ pos 1) f.e.y (pos 2 *ℤ (p.x -ℤ f.p1.x)) (size_within f.e.y) (offset_within f.h (size_of f.e.x) f.p1.x f.middle.x f.e.x p.x (size_within f.e.x) b.middle_x r.columns))))
    (subst (λ (q : ℤ). (size_of f.e.x *ℤ (pos 8 *ℤ f.h +ℤ size_of f.e.y +ℤ pos 1) +ℤ size_of f.e.y *ℤ (pos 8 *ℤ f.h +ℤ size_of f.e.x +ℤ pos 1)) ≤ℤ (pos 22 *ℤ q)) (sym b.unit) (ordered f.h (size_of f.e.x) (size_of f.e.y) (far_sum f.len f.h (size_of f.e.x) (size_of f.e.y) t)))
    (omega (arith, ints, b.unit_least))
  where
    twice : (a b c d : ℤ) → a *ℤ (pos 2 *ℤ d) -ℤ b *ℤ (pos 2 *ℤ c) ≡ pos 2 *ℤ (a *ℤ d -ℤ b *ℤ c)
    twice a b c d = ring (a ∷ b ∷ c ∷ d ∷ []) (var 0 ⊗ (num (pos 2) ⊗ var 3) ⊖ var 1 ⊗ (num (pos 2) ⊗ var 2)) (num (pos 2) ⊗ (var 0 ⊗ var 3 ⊖ var 1 ⊗ var 2)) refl

    ordered : (h x y : ℤ) {n : ℤ} → (pos 8 *ℤ (h *ℤ (x +ℤ y)) +ℤ (x *ℤ x +ℤ y *ℤ y) +ℤ (x +ℤ y)) ≤ℤ n → (x *ℤ (pos 8 *ℤ h +ℤ y +ℤ pos 1) +ℤ y *ℤ (pos 8 *ℤ h +ℤ x +ℤ pos 1)) ≤ℤ n
    ordered h x y {n} i = omega (
      arith,
      ints,
      i,
      gap x y,
      either_sign (x -ℤ y),
      ring (h ∷ x ∷ y ∷ []) (var 1 ⊗ (num (pos 8) ⊗ var 0 ⊕ var 2 ⊕ num (pos 1)) ⊕ var 2 ⊗ (num (pos 8) ⊗ var 0 ⊕ var 1 ⊕ num (pos 1))) (num (pos 8) ⊗ (var 0 ⊗ (var 1 ⊕ var 2)) ⊕ num (pos 2) ⊗ (var 1 ⊗ var 2) ⊕ (var 1 ⊕ var 2)) refl,
    )

-- ---- as fractions
pub along_fraction : (f : LocalFrame) (p : Point) → IsFrame f → IsInRange f p → IsFraction (local_x f p) × IsWithinOf (pos 13) (local_x f p)
along_fraction f p k r = (record { positive = omega (arith, ints, (frame_bounds f k).unit_least) }, record { least = omega (arith, ints, (along_in_range f p k r).least); greatest = (along_in_range f p k r).greatest })

pub left_fraction : (f : LocalFrame) (p : Point) → IsFrame f → IsInRange f p → IsFraction (local_y f p) × IsWithinOf (pos 13) (local_y f p)
left_fraction f p k r = (record { positive = omega (arith, ints, (frame_bounds f k).unit_least) }, record { least = omega (arith, ints, (left_in_range f p k r).least); greatest = (left_in_range f p k r).greatest })
