-- Gluing keeps a front without doubles and reverses, and without tangles. A front line that is clear of the element and is no side of it tangles with no side.
-- Crossing is the one case with a computation: a front line beyond another side would have the crossing point on both sides of that side's line. Stands on GluedFree and SidesFree.
use Prim.Native.Nat.{ℕ, ◌+◌}
use lib.IntN.{ℤ, pos, ◌-ℤ◌, ◌*ℤ◌}
use lib.Signed.{◌<ℤ◌, ◌≤ℤ◌}
use mathlib.Core.Path.{◌≡◌, refl, sym, ap, ◌∙◌, subst}
use mathlib.Core.List.{List, [], ◌∷◌}
use mathlib.Core.Logic.{◌⊎◌, inl, inr}
use native.Mathlib.Omega.{arith}
use Rattle.std.proofs.lemmas.Int.{ints, clamps}
use Rattle.std.proofs.lemmas.List.Elements.{recursion_from_All}
use Rattle.std.specs.List.{AllByRecursion}
use Rattle.grid_geom.specs.declared.Point.{Point}
use Rattle.grid_geom.specs.declared.RatPoint.{RatPoint}
use Rattle.grid_geom.specs.declared.Edge.{Edge}
use Rattle.grid_geom.specs.Plane.{orient, orient_rat}
use Rattle.grid_geom.specs.Sides.{IsOnOpen, DoCross, DoTangle, same_ends, swapped_ends, first_start, first_end, second_start, second_end, crossing}
use Rattle.grid_geom.specs.Polygon.{sides, IsStrictlyConvex, IsApart, outside_a_side, all_left, all_right}
use Rattle.grid_geom.proofs.Ring.{E, var, num, ◌⊖◌, ◌⊗◌, ring}
use Rattle.grid_geom.proofs.Signs.{nn_mul, np_mul, pos_mul, nn_np_mul, np_nn_mul, pos_mul_neg, neg_factor, nn_factor, ordered}
use Rattle.wind_law.specs.Chains.{edge, back}
use Rattle.wind_law.specs.Centre.{centre}
use Rattle.wind_law.proofs.Corners.{IsEndOrLeft}
use Rattle.wind_law.proofs.Polygons.{weak_end}
use Rattle.wind_law.proofs.Inside.{centre_in_polygon}
use Rattle.state_law.specs.Free.{AreFreeOf, AreAlike, DoEdgesTangle}
use Rattle.state_law.specs.Gluing.{glue, IsClearOf}
use Rattle.state_law.proofs.Lists.{all_map, all_both, turned_table, side_ends, at_named}
use Rattle.state_law.proofs.GluedFree.{Fits, IsTwoWay, alike_or_not, free_sides}
use Rattle.state_law.proofs.SidesFree.{DoesSee, seen_sides, no_length, not_reversed, sides_untangled}

-- ---- the two relations don't tell an edge from its reverse
orient_turned_back : (a b c : Point) → orient b a c ≡ pos 0 -ℤ orient a b c
orient_turned_back a b c = ring (a.x ∷ a.y ∷ b.x ∷ b.y ∷ c.x ∷ c.y ∷ [])
    ((var 0 ⊖ var 2) ⊗ (var 5 ⊖ var 3) ⊖ (var 1 ⊖ var 3) ⊗ (var 4 ⊖ var 2)) (num (pos 0) ⊖ ((var 2 ⊖ var 0) ⊗ (var 5 ⊖ var 1) ⊖ (var 3 ⊖ var 1) ⊗ (var 4 ⊖ var 0))) refl

swapped_product : (x y : ℤ) → (x *ℤ y) <ℤ pos 0 → (y *ℤ x) <ℤ pos 0
swapped_product x y h = omega (arith, ints, h)

negated_product : (x y u w : ℤ) → u ≡ pos 0 -ℤ x → w ≡ pos 0 -ℤ y → (u *ℤ w) <ℤ pos 0 → (x *ℤ y) <ℤ pos 0
negated_product x y u w e f h = subst (λ (z : ℤ). z <ℤ pos 0) (ring (x ∷ y ∷ []) ((num (pos 0) ⊖ var 0) ⊗ (num (pos 0) ⊖ var 1)) (var 0 ⊗ var 1) refl) (subst (λ (z : ℤ). (z *ℤ (pos 0 -ℤ y)) <ℤ pos 0) e (subst (λ (z : ℤ). (u *ℤ z) <ℤ pos 0) f h))

pub open_back : (p a b : Point) → IsOnOpen p b a → IsOnOpen p a b
open_back p a b h = record {
  straight = level (orient_turned_back a b p) h.straight;
  right_of_least = omega (arith, ints, clamps, h.right_of_least);
  left_of_greatest = omega (arith, ints, clamps, h.left_of_greatest);
  above_least = omega (arith, ints, clamps, h.above_least);
  below_greatest = omega (arith, ints, clamps, h.below_greatest);
  not_a = h.not_b;
  not_b = h.not_a;
}
  where
    level : {x y : ℤ} → y ≡ pos 0 -ℤ x → y ≡ pos 0 → x ≡ pos 0
    level {x} {y} e f = omega (arith, ints)

-- the other end first, in the second segment and in the first
tangle_second : (a b c d : Point) → DoTangle a b d c → DoTangle a b c d
tangle_second a b c d (same_ends e f) = swapped_ends e f
tangle_second a b c d (swapped_ends e f) = same_ends e f
tangle_second a b c d (first_start h) = first_start (open_back a c d h)
tangle_second a b c d (first_end h) = first_end (open_back b c d h)
tangle_second a b c d (second_start h) = second_end h
tangle_second a b c d (second_end h) = second_start h
tangle_second a b c d (crossing h) = crossing (record {
  ends_first = swapped_product (orient a b d) (orient a b c) h.ends_first;
  ends_second = negated_product (orient c d a) (orient c d b) (orient d c a) (orient d c b) (orient_turned_back c d a) (orient_turned_back c d b) h.ends_second;
})

-- the second segment first
pub tangle_turned : (a b c d : Point) → DoTangle a b c d → DoTangle c d a b
tangle_turned a b c d (same_ends e f) = same_ends (sym e) (sym f)
tangle_turned a b c d (swapped_ends e f) = swapped_ends (sym f) (sym e)
tangle_turned a b c d (first_start h) = second_start h
tangle_turned a b c d (first_end h) = second_end h
tangle_turned a b c d (second_start h) = first_start h
tangle_turned a b c d (second_end h) = first_end h
tangle_turned a b c d (crossing h) = crossing (record { ends_first = h.ends_second; ends_second = h.ends_first })

-- an edge that tangles with another does so reversed
pub tangle_back_first : (e f : Edge) → DoEdgesTangle e f → DoEdgesTangle (back e) f
tangle_back_first e f h = tangle_turned f.a f.b e.b e.a (tangle_second f.a f.b e.b e.a (tangle_turned e.a e.b f.a f.b h))

pub tangle_two_way : IsTwoWay DoEdgesTangle
tangle_two_way = record {
  later = λ e s h. tangle_second e.a e.b s.a s.b h;
  earlier = λ s t h. tangle_turned t.a t.b s.a s.b (tangle_second t.a t.b s.a s.b (tangle_turned s.b s.a t.a t.b h));
}

alike_two_way : IsTwoWay AreAlike
alike_two_way = record {
  later = λ e s h. elim h [ inl i ↦ inr i | inr i ↦ inl i ];
  earlier = λ s t h. elim h [ inl i ↦ inr (ap back i) | inr i ↦ inl (ap back i) ];
}

-- ---- crossing
-- four points and a line: the crossing point is a mean of either two
crossed : (a b c d x y : Point) → orient a b c *ℤ orient x y d -ℤ orient a b d *ℤ orient x y c ≡ orient c d b *ℤ orient x y a -ℤ orient c d a *ℤ orient x y b
crossed a b c d x y = ring (a.x ∷ a.y ∷ b.x ∷ b.y ∷ c.x ∷ c.y ∷ d.x ∷ d.y ∷ x.x ∷ x.y ∷ y.x ∷ y.y ∷ [])
    (turnE 0 2 4 ⊗ turnE 8 10 6 ⊖ turnE 0 2 6 ⊗ turnE 8 10 4) (turnE 4 6 2 ⊗ turnE 8 10 0 ⊖ turnE 4 6 0 ⊗ turnE 8 10 2) refl
  where
    turnE : ℕ → ℕ → ℕ → E
    turnE l m n = (var m ⊖ var l) ⊗ (var (n + 1) ⊖ var (l + 1)) ⊖ (var (m + 1) ⊖ var (l + 1)) ⊗ (var n ⊖ var l)

weights : (a b c d : Point) → orient a b c -ℤ orient a b d ≡ orient c d b -ℤ orient c d a
weights a b c d = ring (a.x ∷ a.y ∷ b.x ∷ b.y ∷ c.x ∷ c.y ∷ d.x ∷ d.y ∷ [])
    (turnE 0 2 4 ⊖ turnE 0 2 6) (turnE 4 6 2 ⊖ turnE 4 6 0) refl
  where
    turnE : ℕ → ℕ → ℕ → E
    turnE l m n = (var m ⊖ var l) ⊗ (var (n + 1) ⊖ var (l + 1)) ⊖ (var (m + 1) ⊖ var (l + 1)) ⊗ (var n ⊖ var l)

-- c, d on the left of a line, one strictly, and a, b on its closed right: a-b and c-d don't cross
falling : (u w p r A B C D : ℤ) → u *ℤ D -ℤ w *ℤ C ≡ r *ℤ A -ℤ p *ℤ B → pos 0 <ℤ u → w <ℤ pos 0 → p <ℤ pos 0 → pos 0 <ℤ r → A ≤ℤ pos 0 → B ≤ℤ pos 0 → pos 0 ≤ℤ C → pos 0 ≤ℤ D → (pos 0 <ℤ C) ⊎ (pos 0 <ℤ D) → ⊥
falling u w p r A B C D e hu hw hp hr hA hB hC hD (inl h) = omega (arith, ints, e, nn_mul u D (omega (arith, ints)) hD, pos_mul_neg C w h hw, nn_np_mul r A (omega (arith, ints)) hA, np_mul p B (omega (arith, ints)) hB)
falling u w p r A B C D e hu hw hp hr hA hB hC hD (inr h) = omega (arith, ints, e, pos_mul u D hu h, np_nn_mul w C (omega (arith, ints)) hC, nn_np_mul r A (omega (arith, ints)) hA, np_mul p B (omega (arith, ints)) hB)

rising : (u w p r A B C D : ℤ) → u *ℤ D -ℤ w *ℤ C ≡ r *ℤ A -ℤ p *ℤ B → u <ℤ pos 0 → pos 0 <ℤ w → pos 0 <ℤ p → r <ℤ pos 0 → A ≤ℤ pos 0 → B ≤ℤ pos 0 → pos 0 ≤ℤ C → pos 0 ≤ℤ D → (pos 0 <ℤ C) ⊎ (pos 0 <ℤ D) → ⊥
rising u w p r A B C D e hu hw hp hr hA hB hC hD (inl h) = omega (arith, ints, e, np_nn_mul u D (omega (arith, ints)) hD, pos_mul w C hw h, np_mul r A (omega (arith, ints)) hA, nn_np_mul p B (omega (arith, ints)) hB)
rising u w p r A B C D e hu hw hp hr hA hB hC hD (inr h) = omega (arith, ints, e, pos_mul_neg D u h hu, nn_mul w C (omega (arith, ints)) hC, np_mul r A (omega (arith, ints)) hA, nn_np_mul p B (omega (arith, ints)) hB)

zero_product : (u w : ℤ) → u ≡ pos 0 → (u *ℤ w) <ℤ pos 0 → ⊥
zero_product u w e h = omega (arith, ints, subst (λ (z : ℤ). (z *ℤ w) <ℤ pos 0) e h)

weak : {z : ℤ} → pos 0 <ℤ z → pos 0 ≤ℤ z
weak {z} h = omega (arith, ints)

uncrossed_ends : (u w p r A B C D : ℤ) → u *ℤ D -ℤ w *ℤ C ≡ r *ℤ A -ℤ p *ℤ B → u -ℤ w ≡ r -ℤ p → (u *ℤ w) <ℤ pos 0 → (p *ℤ r) <ℤ pos 0 → A ≤ℤ pos 0 → B ≤ℤ pos 0 → pos 0 ≤ℤ C → pos 0 ≤ℤ D → (pos 0 <ℤ C) ⊎ (pos 0 <ℤ D) → ⊥
uncrossed_ends u w p r A B C D e f hu hp hA hB hC hD h = elim (ordered u (pos 0)) [
  | inl n ↦ elim (ordered p (pos 0)) [
    | inl m ↦ absurd (off (neg_factor u w hu n) n m (neg_factor p r hp m) f)
    | inr s ↦ elim s [ inl m ↦ zero_product p r m hp | inr m ↦ rising u w p r A B C D e n (neg_factor u w hu n) m (nn_factor p r hp (weak m)) hA hB hC hD h ]
  ]
  | inr s ↦ elim s [
    | inl n ↦ zero_product u w n hu
    | inr n ↦ elim (ordered p (pos 0)) [
      | inl m ↦ falling u w p r A B C D e n (nn_factor u w hu (weak n)) m (neg_factor p r hp m) hA hB hC hD h
      | inr s ↦ elim s [ inl m ↦ zero_product p r m hp | inr m ↦ absurd (off_too n (nn_factor u w hu (weak n)) m (nn_factor p r hp (weak m)) f) ]
    ]
  ]
]
  where
    off : pos 0 <ℤ w → u <ℤ pos 0 → p <ℤ pos 0 → pos 0 <ℤ r → u -ℤ w ≡ r -ℤ p → ⊥
    off a b c d e = omega (arith, ints)

    off_too : pos 0 <ℤ u → w <ℤ pos 0 → pos 0 <ℤ p → r <ℤ pos 0 → u -ℤ w ≡ r -ℤ p → ⊥
    off_too a b c d e = omega (arith, ints)

-- ---- a front line that is beyond a side crosses no side
-- how the ends of a side stand to another: it is the same side, or one end is strictly left
same_or_left : (z : RatPoint) (s t : Edge) → DoesSee z s t → pos 0 <ℤ orient_rat t.a t.b z → ((t.a ≡ s.a) × (t.b ≡ s.b)) ⊎ ((pos 0 <ℤ orient s.a s.b t.a) ⊎ (pos 0 <ℤ orient s.a s.b t.b))
same_or_left z s t h l = cases h.start h.finish
  where
    cases : IsEndOrLeft s t.a → IsEndOrLeft s t.b → ((t.a ≡ s.a) × (t.b ≡ s.b)) ⊎ ((pos 0 <ℤ orient s.a s.b t.a) ⊎ (pos 0 <ℤ orient s.a s.b t.b))
    cases (inr (inr i)) j = inr (inl i)
    cases (inl i) (inr (inr j)) = inr (inr j)
    cases (inr (inl i)) (inr (inr j)) = inr (inr j)
    cases (inl i) (inl j) = absurd (no_length s.a t z l i j)
    cases (inl i) (inr (inl j)) = inl (i, j)
    cases (inr (inl i)) (inl j) = absurd (not_reversed s t z h.left l i j)
    cases (inr (inl i)) (inr (inl j)) = absurd (no_length s.b t z l i j)

beyond_crosses_none : (z : RatPoint) (e s t : Edge) → DoesSee z s t → pos 0 <ℤ orient_rat t.a t.b z → (orient s.a s.b e.a ≤ℤ pos 0) × (orient s.a s.b e.b ≤ℤ pos 0) → ¬ (DoCross e.a e.b t.a t.b)
beyond_crosses_none z e s t h l o c = elim (same_or_left z s t h l) [
  | inl i ↦ own (np_mul (orient s.a s.b e.a) (orient s.a s.b e.b) o.0 o.1) (subst (λ (y : Point). (orient s.a y e.a *ℤ orient s.a y e.b) <ℤ pos 0) i.1 (subst (λ (x : Point). (orient x t.b e.a *ℤ orient x t.b e.b) <ℤ pos 0) i.0 c.ends_second))
  | inr i ↦ uncrossed_ends (orient e.a e.b t.a) (orient e.a e.b t.b) (orient t.a t.b e.a) (orient t.a t.b e.b) (orient s.a s.b e.a) (orient s.a s.b e.b) (orient s.a s.b t.a) (orient s.a s.b t.b)
      (crossed e.a e.b t.a t.b s.a s.b) (weights e.a e.b t.a t.b) c.ends_first c.ends_second o.0 o.1 (weak_end s t.a h.start) (weak_end s t.b h.finish) i
]
  where
    own : {z : ℤ} → pos 0 ≤ℤ z → z <ℤ pos 0 → ⊥
    own {z} f g = omega (arith, ints)

clash : {z : ℤ} → pos 0 ≤ℤ z → z <ℤ pos 0 → ⊥
clash {z} f g = omega (arith, ints)

crosses_none : (cs : List Point) (e : Edge) → IsStrictlyConvex cs → IsApart e.a e.b cs → AllByRecursion (λ t. ¬ (DoCross e.a e.b t.a t.b)) (sides cs)
crosses_none cs e v (all_left h) = all_map (λ t. (pos 0 ≤ℤ orient e.a e.b t.a) × (pos 0 ≤ℤ orient e.a e.b t.b)) (λ t. ¬ (DoCross e.a e.b t.a t.b)) (λ t p c. clash (nn_mul (orient e.a e.b t.a) (orient e.a e.b t.b) p.0 p.1) c.ends_first) (sides cs)
    (side_ends (λ c. pos 0 ≤ℤ orient e.a e.b c) cs (recursion_from_All _ cs h))
crosses_none cs e v (all_right h) = all_map (λ t. (orient e.a e.b t.a ≤ℤ pos 0) × (orient e.a e.b t.b ≤ℤ pos 0)) (λ t. ¬ (DoCross e.a e.b t.a t.b)) (λ t p c. clash (np_mul (orient e.a e.b t.a) (orient e.a e.b t.b) p.0 p.1) c.ends_first) (sides cs)
    (side_ends (λ c. orient e.a e.b c ≤ℤ pos 0) cs (recursion_from_All _ cs h))
crosses_none cs e v (outside_a_side n) = all_both (DoesSee (centre cs) n.1) (λ t. pos 0 <ℤ orient_rat t.a t.b (centre cs)) (λ t. ¬ (DoCross e.a e.b t.a t.b)) (λ t h l. beyond_crosses_none (centre cs) e n.1 t h l n.4) (sides cs)
    (at_named _ (λ s. AllByRecursion (DoesSee (centre cs) s) (sides cs)) (sides cs) (seen_sides cs v) n) (centre_in_polygon cs v).left

-- ---- a front line that is clear of the element fits each side
fits_tangle : (e t : Edge) → ¬ (DoCross e.a e.b t.a t.b) → ¬ (IsOnOpen e.a t.a t.b) × ¬ (IsOnOpen e.b t.a t.b) → ¬ (IsOnOpen t.a e.a e.b) × ¬ (IsOnOpen t.b e.a e.b) → ¬ (e ≡ back t) → Fits DoEdgesTangle t e
fits_tangle e t c o p n = elim (alike_or_not e t) [
  | inl i ↦ inl i
  | inr m ↦ inr (untangled m)
]
  where
    joined : (a b c d : Point) → a ≡ c → b ≡ d → edge a b ≡ edge c d
    joined a b c d f g = ap (λ (z : Point). edge z b) f ∙ ap (λ (z : Point). edge c z) g

    untangled : ¬ (e ≡ t) → ¬ (DoEdgesTangle e t)
    untangled m (same_ends f g) = m (joined e.a e.b t.a t.b f g)
    untangled m (swapped_ends f g) = n (joined e.a e.b t.b t.a f g)
    untangled m (first_start h) = o.0 h
    untangled m (first_end h) = o.1 h
    untangled m (second_start h) = p.0 h
    untangled m (second_end h) = p.1 h
    untangled m (crossing h) = c h

pub line_fits : (cs : List Point) (e : Edge) → IsStrictlyConvex cs → IsClearOf cs e → AllByRecursion (λ t. Fits DoEdgesTangle t e) (sides cs)
line_fits cs e v h = all_both (λ t. ¬ (DoCross e.a e.b t.a t.b) × (¬ (IsOnOpen e.a t.a t.b) × ¬ (IsOnOpen e.b t.a t.b))) (λ t. (¬ (IsOnOpen t.a e.a e.b) × ¬ (IsOnOpen t.b e.a e.b)) × ¬ (e ≡ back t)) (λ t. Fits DoEdgesTangle t e) (λ t x y. fits_tangle e t x.0 x.1 y.0 y.1) (sides cs)
    (all_both (λ t. ¬ (DoCross e.a e.b t.a t.b)) (λ t. ¬ (IsOnOpen e.a t.a t.b) × ¬ (IsOnOpen e.b t.a t.b)) (λ t. ¬ (DoCross e.a e.b t.a t.b) × (¬ (IsOnOpen e.a t.a t.b) × ¬ (IsOnOpen e.b t.a t.b))) (λ t x y. (x, y)) (sides cs) (crosses_none cs e v h.apart) h.ends_off_sides)
    (all_both (λ t. ¬ (IsOnOpen t.a e.a e.b) × ¬ (IsOnOpen t.b e.a e.b)) (λ t. ¬ (e ≡ back t)) (λ t. (¬ (IsOnOpen t.a e.a e.b) × ¬ (IsOnOpen t.b e.a e.b)) × ¬ (e ≡ back t)) (λ t x y. (x, y)) (sides cs) (side_ends (λ c. ¬ (IsOnOpen c e.a e.b)) cs h.corners_off_line) h.not_backwards)

pub glued_untangled : (cs : List Point) (front : List Edge) → IsStrictlyConvex cs → AllByRecursion (IsClearOf cs) front → AreFreeOf DoEdgesTangle front → AreFreeOf DoEdgesTangle (glue front cs)
glued_untangled cs front v h f = free_sides DoEdgesTangle tangle_two_way front (sides cs) f (sides_untangled cs v) (turned_table (λ e t. Fits DoEdgesTangle t e) front (sides cs) (all_map (IsClearOf cs) (λ e. AllByRecursion (λ t. Fits DoEdgesTangle t e) (sides cs)) (λ e c. line_fits cs e v c) front h))

-- ---- doubles and reverses
pub tangle_of_alike : (e t : Edge) → AreAlike e t → DoEdgesTangle e t
tangle_of_alike e t (inl h) = same_ends (ap (λ (z : Edge). z.a) h) (ap (λ (z : Edge). z.b) h)
tangle_of_alike e t (inr h) = swapped_ends (ap (λ (z : Edge). z.a) h) (ap (λ (z : Edge). z.b) h)

pub free_weaker : (R S : Edge → Edge → Type 0) → ((e f : Edge) → S e f → R e f) → (es : List Edge) → AreFreeOf R es → AreFreeOf S es
free_weaker R S g [] h = tt
free_weaker R S g (e ∷ es) h = (all_map (λ f. ¬ (R e f)) (λ f. ¬ (S e f)) (λ f n s. n (g e f s)) es h.0, free_weaker R S g es h.1)

fits_alike : (e t : Edge) → ¬ (e ≡ back t) → Fits AreAlike t e
fits_alike e t n = elim (alike_or_not e t) [
  | inl i ↦ inl i
  | inr m ↦ inr (λ a. elim a [ inl j ↦ m j | inr j ↦ n j ])
]

-- of clauses 1 to 4 only that no side is a front line reversed
pub glued_single : (cs : List Point) (front : List Edge) → IsStrictlyConvex cs → AllByRecursion (λ e. AllByRecursion (λ s. ¬ (e ≡ back s)) (sides cs)) front → AreFreeOf AreAlike front → AreFreeOf AreAlike (glue front cs)
glued_single cs front v h f = free_sides AreAlike alike_two_way front (sides cs) f (free_weaker DoEdgesTangle AreAlike tangle_of_alike (sides cs) (sides_untangled cs v))
    (turned_table (λ e t. Fits AreAlike t e) front (sides cs) (all_map (λ e. AllByRecursion (λ s. ¬ (e ≡ back s)) (sides cs)) (λ e. AllByRecursion (λ t. Fits AreAlike t e) (sides cs)) (λ e c. all_map (λ s. ¬ (e ≡ back s)) (λ s. Fits AreAlike s e) (λ s n. fits_alike e s n) (sides cs) c) front h))
