-- The box of all points in range, and the local places of near points, as the code computes them.
use Prim.Native.Nat.{ℕ, ◌≤◌}
use lib.IntN.{ℤ, pos, ◌+ℤ◌, ◌-ℤ◌, ◌*ℤ◌}
use lib.Signed.{◌≤ℤ◌}
use native.Mathlib.Omega.{arith}
use mathlib.Core.Path.{◌≡◌, sym, ap, ◌∙◌, subst}
use mathlib.Core.Logic.{inl, inr}
use mathlib.Core.List.{List}
use mir.Val.{SFits, to_z, of_z}
use mir.Syntax.{w32, w64, w128}
use Rattle.std.specs.Int.RustNames.{unsigned_abs}
use Rattle.std.proofs.lemmas.Int.{ints, to_z-of_z}
use Rattle.grid_geom.specs.declared.Point.{Point}
use Rattle.grid_geom.specs.Bounds.{IsWithin}
use Rattle.grid_geom.proofs.Ints.{mul_assoc}
use Rattle.grid_geom.proofs.Signs.{le_mul, either}
use Rattle.rule_maps.specs.Fractions.{Fraction, IsFraction, IsNearest, IsWithinOf}
use Rattle.rule_maps.specs.Frame.{LocalFrame, IsFrame, IsHeight, IsInRange, in_units, local_x, local_y, local4_x, local4_y}
use Rattle.rule_maps.proofs.Frames.{cast64, cast128, frame_bounds}
use Rattle.rule_maps.proofs.Ranges.{along_fraction, left_fraction}
use Rattle.rule_maps.proofs.Rounding.{nearest_near}
use Rattle.state_law.specs.State.{point_at}
use Rattle.admission.specs.Around.{IsInBounds}
use Rattle.rule_match.specs.declared.around.TheConstants.{FARTHEST}
use Rattle.rule_match.specs.declared.near.NearPoint.{NearPoint}
use Rattle.rule_match.specs.Around.{near_of}

abbrev pub cast32 : ℤ → ℤ
cast32 z = to_z w32 (of_z w32 z)

-- ---- four heights
pub record IsFourfold (h r : ℤ) : Type 0 where
  pub fits : SFits w64 (cast128 r)
  pub four_fits : SFits w64 (pos 4 *ℤ cast64 (cast128 r))
  pub value : cast64 (pos 4 *ℤ cast64 (cast128 r)) ≡ pos 4 *ℤ h
  pub small : unsigned_abs (cast64 (pos 4 *ℤ cast64 (cast128 r))) ≤ FARTHEST

pub fourfold : (f : LocalFrame) (r : ℤ) → IsFrame f → r ≡ f.h → IsFourfold f.h r
fourfold f r k e = subst (IsFourfold f.h) (sym e) (by f.h (frame_bounds f k).high)
  where
    by : (h : ℤ) → IsHeight h → IsFourfold h h
    by h k =
        let fh : SFits w64 h = omega (arith, ints, k.least, k.greatest) in
        let gh : SFits w128 h = omega (arith, ints, k.least, k.greatest) in
        let f4 : SFits w64 (pos 4 *ℤ h) = omega (arith, ints, k.least, k.greatest) in
        let same : cast64 (cast128 h) ≡ h = simp to_z-of_z in
        record {
          fits = subst (SFits w64) (sym (to_z-of_z w128 h gh)) fh;
          four_fits = subst (λ (z : ℤ). SFits w64 (pos 4 *ℤ z)) (sym same) f4;
          value = ap (λ (z : ℤ). cast64 (pos 4 *ℤ z)) same ∙ to_z-of_z w64 (pos 4 *ℤ h) f4;
          small = subst (λ (z : ℤ). unsigned_abs z ≤ FARTHEST) (sym (ap (λ (z : ℤ). cast64 (pos 4 *ℤ z)) same ∙ to_z-of_z w64 (pos 4 *ℤ h) f4)) (omega (arith, ints, k.least, k.greatest));
        }

-- the middle is near the grid
pub middle_x_small : (f : LocalFrame) (p : Point) → IsFrame f → p ≡ f.middle → unsigned_abs p.x ≤ FARTHEST
middle_x_small f p k e = let b = frame_bounds f k in subst (λ (q : Point). unsigned_abs q.x ≤ FARTHEST) (sym e) (omega (arith, ints, b.middle_x.least, b.middle_x.greatest, b.start_on.x_within.least, b.start_on.x_within.greatest, b.way_within.x_within.least, b.way_within.x_within.greatest))

pub middle_y_small : (f : LocalFrame) (p : Point) → IsFrame f → p ≡ f.middle → unsigned_abs p.y ≤ FARTHEST
middle_y_small f p k e = let b = frame_bounds f k in subst (λ (q : Point). unsigned_abs q.y ≤ FARTHEST) (sym e) (omega (arith, ints, b.middle_y.least, b.middle_y.greatest, b.start_on.y_within.least, b.start_on.y_within.greatest, b.way_within.y_within.least, b.way_within.y_within.greatest))

-- ---- the box of all points in range
-- each coordinate of a point in range is between the box's
between : (m far h low high p : ℤ) → unsigned_abs m ≤ FARTHEST → unsigned_abs far ≤ FARTHEST → far ≡ pos 4 *ℤ h → low ≡ m -ℤ far → high ≡ m +ℤ far → IsWithin (pos 4 *ℤ h) (p -ℤ m) → (cast64 low ≤ℤ p) × (p ≤ℤ cast64 high)
between m far h low high p bm bf e l g w =
    let fl : SFits w64 low = omega (arith, ints, bm, bf, l) in
    let fg : SFits w64 high = omega (arith, ints, bm, bf, g) in
    (subst (λ (z : ℤ). z ≤ℤ p) (sym (to_z-of_z w64 low fl)) (omega (arith, ints, e, l, w.least)), subst (λ (z : ℤ). p ≤ℤ z) (sym (to_z-of_z w64 high fg)) (omega (arith, ints, e, g, w.greatest)))

-- the sides of the box, of the middle and four heights
pub record AreSides (m : Point) (far x0 y0 x1 y1 : ℤ) : Type 0 where
  pub left : x0 ≡ m.x -ℤ far
  pub below : y0 ≡ m.y -ℤ far
  pub right : x1 ≡ m.x +ℤ far
  pub above : y1 ≡ m.y +ℤ far

pub boxed : (f : LocalFrame) (m : Point) (far x0 y0 x1 y1 : ℤ) → IsFrame f → m ≡ f.middle → far ≡ pos 4 *ℤ f.h → unsigned_abs far ≤ FARTHEST → AreSides m (cast64 far) x0 y0 x1 y1 →
    (p : Point) → IsInRange f p → IsInBounds (record { lo = record { x = cast64 x0; y = cast64 y0 }; hi = record { x = cast64 x1; y = cast64 y1 } }) p
boxed f m far x0 y0 x1 y1 k e g small sides p r =
    let fits : SFits w64 far = omega (arith, ints, small) in
    let s : AreSides m far x0 y0 x1 y1 = subst (λ (z : ℤ). AreSides m z x0 y0 x1 y1) (to_z-of_z w64 far fits) sides in
    let x : (cast64 x0 ≤ℤ p.x) × (p.x ≤ℤ cast64 x1) = between m.x far f.h x0 x1 p.x (middle_x_small f m k e) small g s.left s.right (subst (λ (q : Point). IsWithin (pos 4 *ℤ f.h) (p.x -ℤ q.x)) (sym e) r.columns) in
    let y : (cast64 y0 ≤ℤ p.y) × (p.y ≤ℤ cast64 y1) = between m.y far f.h y0 y1 p.y (middle_y_small f m k e) small g s.below s.above (subst (λ (q : Point). IsWithin (pos 4 *ℤ f.h) (p.y -ℤ q.y)) (sym e) r.rows) in
    record { right_of_least = x.0; left_of_greatest = x.1; above_least = y.0; below_greatest = y.1 }

-- ---- local places in units of 1/10,000
-- of a fraction of at most 13, in absolute value, they are at most 130,000
rounded_small : (x : Fraction) → IsFraction x → IsWithinOf (pos 13) x → unsigned_abs (in_units x) ≤ 130000
rounded_small x k w = by (in_units x) (nearest_near (record { top = pos 10000 *ℤ x.top; bottom = x.bottom }) (record { positive = k.positive }))
  where
    by : (n : ℤ) → IsNearest (record { top = pos 10000 *ℤ x.top; bottom = x.bottom }) n → unsigned_abs n ≤ 130000
    by n h = elim (either n (pos 130000)) [
      | inr i ↦ absurd (omega (arith, ints, i, mul_assoc (pos 2) n x.bottom, h.not_more, w.greatest, k.positive, le_mul (pos 130001) n x.bottom k.positive (omega (arith, ints, i))))
      | inl i ↦ elim (either (pos 0 -ℤ pos 130000) n) [
        | inl j ↦ omega (arith, ints, i, j)
        | inr j ↦ absurd (omega (arith, ints, j, mul_assoc (pos 2) n x.bottom, h.not_less, w.least, k.positive, le_mul n (pos 0 -ℤ pos 130001) x.bottom k.positive (omega (arith, ints, j))))
      ]
    ]

-- a result and its cast to 32 bits
pub record IsKept (r z : ℤ) : Type 0 where
  pub fits : SFits w32 (cast64 r)
  pub value : cast32 (cast64 r) ≡ z

kept_small : (r z : ℤ) → r ≡ z → unsigned_abs z ≤ 130000 → IsKept r z
kept_small r z e h = subst (λ (y : ℤ). IsKept y z) (sym e)
    (let f : SFits w64 z = omega (arith, ints, h) in let g : SFits w32 z = omega (arith, ints, h) in
    record { fits = subst (SFits w32) (sym (to_z-of_z w64 z f)) g; value = ap cast32 (to_z-of_z w64 z f) ∙ to_z-of_z w32 z g })

pub along_kept : (f : LocalFrame) (p : Point) (r : ℤ) → IsFrame f → IsInRange f p → r ≡ local4_x f p → IsKept r (local4_x f p)
along_kept f p r k i e = kept_small r (local4_x f p) e (rounded_small (local_x f p) (along_fraction f p k i).0 (along_fraction f p k i).1)

pub left_kept : (f : LocalFrame) (p : Point) (r : ℤ) → IsFrame f → IsInRange f p → r ≡ local4_y f p → IsKept r (local4_y f p)
left_kept f p r k i e = kept_small r (local4_y f p) e (rounded_small (local_y f p) (left_fraction f p k i).0 (left_fraction f p k i).1)

pub near_is : (points : List Point) (f : LocalFrame) (n : ℕ) (at : Point) (x y : ℤ) → at ≡ point_at points n → x ≡ local4_x f at → y ≡ local4_y f at → ◌≡◌ {A = NearPoint} (record { number = n; at = at; x = x; y = y }) (near_of points f n)
near_is points f n at x y e g h = ap (λ (z : ℤ). of n at z y) g ∙ ap (λ (z : ℤ). of n at (local4_x f at) z) h ∙ ap (λ (p : Point). of n p (local4_x f p) (local4_y f p)) e
  where
    of : ℕ → Point → ℤ → ℤ → NearPoint
    of n p x y = record { number = n; at = p; x = x; y = y }
