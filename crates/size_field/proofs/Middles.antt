-- What the middle between two points is, and where it lies.
use Rattle.std.proofs.Common.{◌≡◌, ℕ, Bool, true, false, cond, ltb, Option, Some, None, unwrap_or, refl, sym, ap, ◌∙◌, arith, ℤ, pos, ◌+ℤ◌, ◌-ℤ◌, ◌*ℤ◌, [], ◌∷◌}
use Rattle.std.proofs.lemmas.Option.{none-some}
use Rattle.std.proofs.lemmas.Int.{ints, clamps}
use Rattle.std.proofs.lemmas.Bool.Decides.{Decides-int_eq}
use Rattle.std.specs.Ordering.{int_eq}
use Rattle.grid_geom.specs.declared.Point.{Point}
use Rattle.grid_geom.specs.declared.TheConstants.{GRID}
use Rattle.grid_geom.specs.Bounds.{IsWithin, IsOnGrid}
use Rattle.grid_geom.specs.Sides.{IsOnOpen}
use Rattle.grid_geom.proofs.Lines.{same_place}
use Rattle.grid_geom.proofs.Quotients.{floor_least, floor_greatest}
use Rattle.grid_geom.proofs.Ring.{var, num, ◌⊖◌, ◌⊗◌, ring}
use Rattle.size_field.specs.Size.{reach}
use Rattle.size_field.specs.Cutting.{half, half_sum, point_of, middle_of, where_longer, cut_at, IsMiddle}

-- ---- from the option to the middle
some_is : {X : Type 0} (b : Bool) (z x : X) → cond b (Some z) None ≡ Some x → (b ≡ true) × (z ≡ x)
some_is {X} true z x e = (refl, ap (λ (o : Option X). unwrap_or o z) e)
some_is {X} false z x e = absurd (none-some x e)

half_sum_is : (u w z : ℤ) → half_sum u w ≡ Some z → pos 2 *ℤ z ≡ u +ℤ w
half_sum_is u w z e =
    let found = some_is (int_eq (pos 2 *ℤ half (u +ℤ w)) (u +ℤ w)) (half (u +ℤ w)) z e in
    ap (λ (h : ℤ). pos 2 *ℤ h) (sym found.1) ∙ (Decides-int_eq (pos 2 *ℤ half (u +ℤ w)) (u +ℤ w)).0 found.0

-- both coordinates are there
pub record HasBoth (ox oy : Option ℤ) (m : Point) : Type 0 where
  pub x : ox ≡ Some m.x
  pub y : oy ≡ Some m.y

has_both : (ox oy : Option ℤ) (m : Point) → point_of ox oy ≡ Some m → HasBoth ox oy m
has_both None oy m e = absurd (none-some m e)
has_both (Some x) None m e = absurd (none-some m e)
has_both (Some x) (Some y) m e = let at : record { x = x; y = y } ≡ m = ap (λ (o : Option Point). unwrap_or o m) e in record { x = ap (λ (p : Point). Some p.x) at; y = ap (λ (p : Point). Some p.y) at }

pub middle_is : (a b m : Point) → middle_of a b ≡ Some m → IsMiddle m a b
middle_is a b m e = let both = has_both (half_sum a.x b.x) (half_sum a.y b.y) m e in record { x = half_sum_is a.x b.x m.x both.x; y = half_sum_is a.y b.y m.y both.y }

where_is : (bound : Point → ℕ) (n : ℕ) (o : Option Point) (m : Point) → where_longer bound n o ≡ Some m → o ≡ Some m
where_is bound n None m e = e
where_is bound n (Some p) m e = ap Some (some_is (ltb (bound p) n) p m e).1

pub cut_is : (bound : Point → ℕ) (a b m : Point) → cut_at bound a b ≡ Some m → IsMiddle m a b
cut_is bound a b m e = middle_is a b m (where_is bound (reach a b) (middle_of a b) m e)

-- ---- and back
half_twice : (z s : ℤ) → pos 2 *ℤ z ≡ s → half s ≡ z
half_twice z s e =
    let low = floor_least s (pos 2) (omega (arith, ints)) in let high = floor_greatest s (pos 2) (omega (arith, ints)) in
    omega (arith, ints)

sum_half : (u w z : ℤ) → pos 2 *ℤ z ≡ u +ℤ w → half_sum u w ≡ Some z
sum_half u w z e =
    let is = half_twice z (u +ℤ w) e in
    let whole : int_eq (pos 2 *ℤ half (u +ℤ w)) (u +ℤ w) ≡ true = (Decides-int_eq (pos 2 *ℤ half (u +ℤ w)) (u +ℤ w)).1 (ap (λ (h : ℤ). pos 2 *ℤ h) is ∙ e) in
    (λ i. cond (whole i) (Some (is i)) None)

pub is_middle : (a b m : Point) → IsMiddle m a b → middle_of a b ≡ Some m
is_middle a b m h = λ i. point_of (sum_half a.x b.x m.x h.x i) (sum_half a.y b.y m.y h.y i)

-- ---- where it lies
within : (u w z : ℤ) → pos 2 *ℤ z ≡ u +ℤ w → IsWithin GRID u → IsWithin GRID w → IsWithin GRID z
within u w z e hu hw = record { least = omega (arith, ints); greatest = omega (arith, ints) }

pub middle_on_grid : (a b m : Point) → IsMiddle m a b → IsOnGrid a → IsOnGrid b → IsOnGrid m
middle_on_grid a b m h on_a on_b = record { x_within = within a.x b.x m.x h.x on_a.x_within on_b.x_within; y_within = within a.y b.y m.y h.y on_a.y_within on_b.y_within }

other : (u w z : ℤ) → pos 2 *ℤ z ≡ u +ℤ w → w ≡ pos 2 *ℤ z -ℤ u
other u w z e = omega (arith, ints)

-- the middle is on the line
straight : (ax ay bx by mx my : ℤ) → bx ≡ pos 2 *ℤ mx -ℤ ax → by ≡ pos 2 *ℤ my -ℤ ay → (bx -ℤ ax) *ℤ (my -ℤ ay) -ℤ (by -ℤ ay) *ℤ (mx -ℤ ax) ≡ pos 0
straight ax ay bx by mx my e f =
    (λ i. (e i -ℤ ax) *ℤ (my -ℤ ay) -ℤ (f i -ℤ ay) *ℤ (mx -ℤ ax))
    ∙ ring (ax ∷ ay ∷ mx ∷ my ∷ []) ((num (pos 2) ⊗ var 2 ⊖ var 0 ⊖ var 0) ⊗ (var 3 ⊖ var 1) ⊖ (num (pos 2) ⊗ var 3 ⊖ var 1 ⊖ var 1) ⊗ (var 2 ⊖ var 0)) (num (pos 0)) refl

first_end : (u w z : ℤ) → pos 2 *ℤ z ≡ u +ℤ w → z ≡ u → u ≡ w
first_end u w z e f = omega (arith, ints)

last_end : (u w z : ℤ) → pos 2 *ℤ z ≡ u +ℤ w → z ≡ w → u ≡ w
last_end u w z e f = omega (arith, ints)

-- between two different points, and neither of them
pub middle_on_open : (a b m : Point) → IsMiddle m a b → ¬ (a ≡ b) → IsOnOpen m a b
middle_on_open a b m h two = record {
  straight = straight a.x a.y b.x b.y m.x m.y (other a.x b.x m.x h.x) (other a.y b.y m.y h.y);
  right_of_least = omega (arith, ints, clamps, h.x);
  left_of_greatest = omega (arith, ints, clamps, h.x);
  above_least = omega (arith, ints, clamps, h.y);
  below_greatest = omega (arith, ints, clamps, h.y);
  not_a = λ e. two (same_place a b (first_end a.x b.x m.x h.x (ap (λ (p : Point). p.x) e)) (first_end a.y b.y m.y h.y (ap (λ (p : Point). p.y) e)));
  not_b = λ e. two (same_place a b (last_end a.x b.x m.x h.x (ap (λ (p : Point). p.x) e)) (last_end a.y b.y m.y h.y (ap (λ (p : Point). p.y) e)));
}
