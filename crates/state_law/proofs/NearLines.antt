-- A front line whose box misses the box of an element's corners is clear of the element. A front line that leaves by an application has its ends at corners of the application's elements.
-- So near lines are enough for clauses 2 to 4 of gluing, and a refusal's witness that leaves lies where the application touches. Stands on Boxes, Counts and grid_geom's Entering.
use Prim.Native.Nat.{ℕ, ◌≤◌}
use lib.IntN.{ℤ, pos, ◌+ℤ◌, ◌-ℤ◌}
use lib.Signed.{◌<ℤ◌, ◌≤ℤ◌}
use mathlib.Core.Path.{refl, ◌≡◌, sym, ap, subst}
use mathlib.Core.List.{List, [], ◌∷◌}
use mathlib.Core.Logic.{◌⊎◌, inl, inr}
use native.Mathlib.Omega.{arith}
use Rattle.std.proofs.lemmas.Int.{ints, clamps}
use Rattle.std.specs.Int.{int_max, int_min}
use Rattle.std.proofs.lemmas.List.Elements.{All-from_recursion, recursion_from_All}
use Rattle.std.specs.List.{AllByRecursion, list_any}
use mathlib.Core.Bool.{Bool, true, false}
use Rattle.grid_geom.specs.declared.Point.{Point}
use Rattle.grid_geom.specs.declared.Edge.{Edge}
use Rattle.grid_geom.specs.Sides.{IsOnOpen, DoSpansMeet, DoBoxesMeet}
use Rattle.grid_geom.specs.Plane.{orient}
use Rattle.grid_geom.specs.Polygon.{sides, is_outside, IsStrictlyConvex, IsApart, all_left}
use Rattle.grid_geom.specs.Closed.{IsEdge}
use Rattle.grid_geom.proofs.Signs.{either}
use Rattle.grid_geom.proofs.Booleans.{clash}
use Rattle.grid_geom.proofs.Entering.{apart_enters, right_apart, outside_apart, apart_outside}
use Rattle.wind_law.specs.Chains.{back, times}
use Rattle.state_law.specs.Free.{IsIn}
use Rattle.state_law.specs.Net.{net}
use Rattle.state_law.specs.Gluing.{glue_all, IsClearOf}
use Rattle.state_law.specs.Kept.{all_sides}
use Rattle.state_law.specs.Saved.{AreInBox, IsCorner, IsElement, IsElementCorner}
use Rattle.state_law.specs.Refusal.{IsFront}
use Rattle.state_law.proofs.Lists.{all_map, all_both, at_edge, side_ends}
use Rattle.state_law.proofs.Counts.{in_by_times, times_not_in, net_in}
use Rattle.state_law.proofs.Conform.{HasSide, side_of}
use Rattle.state_law.proofs.Hanging.{in_corners}
use Rattle.state_law.proofs.Refused.{all_net}
use Rattle.state_law.proofs.Boxes.{entered_boxes}

-- ---- boxes that meet, or not
spans_or_not : (u w y z : ℤ) → DoSpansMeet u w y z ⊎ ¬ (DoSpansMeet u w y z)
spans_or_not u w y z = elim (either (int_min u w) (int_max y z)) [
  | inr h ↦ inr (λ m. off h m.not_after)
  | inl h ↦ elim (either (int_min y z) (int_max u w)) [ inr i ↦ inr (λ m. off i m.not_before) | inl i ↦ inl (record { not_after = h; not_before = i }) ]
]
  where
    off : {k l : ℤ} → l <ℤ k → k ≤ℤ l → ⊥
    off {k} {l} h i = omega (arith, ints)

pub boxes_or_not : (a b c d : Point) → DoBoxesMeet a b c d ⊎ ¬ (DoBoxesMeet a b c d)
boxes_or_not a b c d = elim (spans_or_not a.x b.x c.x d.x) [
  | inr n ↦ inr (λ m. n m.columns)
  | inl h ↦ elim (spans_or_not a.y b.y c.y d.y) [ inr n ↦ inr (λ m. n m.rows) | inl i ↦ inl (record { columns = h; rows = i }) ]
]

-- a place in both
pub record IsPlaced (p lo hi : Point) : Type 0 where
  pub right_of_least : lo.x ≤ℤ p.x
  pub left_of_greatest : p.x ≤ℤ hi.x
  pub above_least : lo.y ≤ℤ p.y
  pub below_greatest : p.y ≤ℤ hi.y

pub placed : (lo hi : Point) (cs : List Point) → AreInBox lo hi cs → AllByRecursion (λ c. IsPlaced c lo hi) cs
placed lo hi cs h = all_both (λ c. (lo.x ≤ℤ c.x) × (c.x ≤ℤ hi.x)) (λ c. (lo.y ≤ℤ c.y) × (c.y ≤ℤ hi.y)) (λ c. IsPlaced c lo hi) (λ c x y. record { right_of_least = x.0; left_of_greatest = x.1; above_least = y.0; below_greatest = y.1 }) cs
    (all_both (λ c. lo.x ≤ℤ c.x) (λ c. c.x ≤ℤ hi.x) (λ c. (lo.x ≤ℤ c.x) × (c.x ≤ℤ hi.x)) (λ c x y. (x, y)) cs h.right_of_least h.left_of_greatest)
    (all_both (λ c. lo.y ≤ℤ c.y) (λ c. c.y ≤ℤ hi.y) (λ c. (lo.y ≤ℤ c.y) × (c.y ≤ℤ hi.y)) (λ c x y. (x, y)) cs h.above_least h.below_greatest)

span_at : (p u w y z : ℤ) → int_min u w ≤ℤ p → p ≤ℤ int_max u w → y ≤ℤ p → p ≤ℤ z → DoSpansMeet u w y z
span_at p u w y z h i j k = record { not_after = omega (arith, ints, clamps); not_before = omega (arith, ints, clamps) }

first_least : (u w : ℤ) → int_min u w ≤ℤ u
first_least u w = omega (arith, ints, clamps)

first_greatest : (u w : ℤ) → u ≤ℤ int_max u w
first_greatest u w = omega (arith, ints, clamps)

second_least : (u w : ℤ) → int_min u w ≤ℤ w
second_least u w = omega (arith, ints, clamps)

second_greatest : (u w : ℤ) → w ≤ℤ int_max u w
second_greatest u w = omega (arith, ints, clamps)

pub start_meets : (a b lo hi : Point) → IsPlaced a lo hi → DoBoxesMeet a b lo hi
start_meets a b lo hi h = record { columns = span_at a.x a.x b.x lo.x hi.x (first_least a.x b.x) (first_greatest a.x b.x) h.right_of_least h.left_of_greatest; rows = span_at a.y a.y b.y lo.y hi.y (first_least a.y b.y) (first_greatest a.y b.y) h.above_least h.below_greatest }

pub end_meets : (a b lo hi : Point) → IsPlaced b lo hi → DoBoxesMeet a b lo hi
end_meets a b lo hi h = record { columns = span_at b.x a.x b.x lo.x hi.x (second_least a.x b.x) (second_greatest a.x b.x) h.right_of_least h.left_of_greatest; rows = span_at b.y a.y b.y lo.y hi.y (second_least a.y b.y) (second_greatest a.y b.y) h.above_least h.below_greatest }

open_meets : (c a b lo hi : Point) → IsOnOpen c a b → IsPlaced c lo hi → DoBoxesMeet a b lo hi
open_meets c a b lo hi o h = record { columns = span_at c.x a.x b.x lo.x hi.x o.right_of_least o.left_of_greatest h.right_of_least h.left_of_greatest; rows = span_at c.y a.y b.y lo.y hi.y o.above_least o.below_greatest h.above_least h.below_greatest }

-- a place between two of the box is in it
between : (p a b lo hi : Point) → IsOnOpen p a b → IsPlaced a lo hi → IsPlaced b lo hi → IsPlaced p lo hi
between p a b lo hi o h i = record {
  right_of_least = low p.x a.x b.x lo.x o.right_of_least h.right_of_least i.right_of_least;
  left_of_greatest = high p.x a.x b.x hi.x o.left_of_greatest h.left_of_greatest i.left_of_greatest;
  above_least = low p.y a.y b.y lo.y o.above_least h.above_least i.above_least;
  below_greatest = high p.y a.y b.y hi.y o.below_greatest h.below_greatest i.below_greatest;
}
  where
    low : (p u w m : ℤ) → int_min u w ≤ℤ p → m ≤ℤ u → m ≤ℤ w → m ≤ℤ p
    low p u w m h i j = omega (arith, ints, clamps)

    high : (p u w m : ℤ) → p ≤ℤ int_max u w → u ≤ℤ m → w ≤ℤ m → p ≤ℤ m
    high p u w m h i j = omega (arith, ints, clamps)

-- ---- what hinders is near
clear_if_apart : (lo hi : Point) (cs : List Point) (e : Edge) → AreInBox lo hi cs → ¬ (DoBoxesMeet e.a e.b lo hi) → IsApart e.a e.b cs → IsClearOf cs e
clear_if_apart lo hi cs e h far a = record {
  apart = a;
  ends_off_sides = all_map (λ s. IsPlaced s.a lo hi × IsPlaced s.b lo hi) (λ s. ¬ (IsOnOpen e.a s.a s.b) × ¬ (IsOnOpen e.b s.a s.b)) (λ s x. (λ o. far (start_meets e.a e.b lo hi (between e.a s.a s.b lo hi o x.0 x.1)), λ o. far (end_meets e.a e.b lo hi (between e.b s.a s.b lo hi o x.0 x.1)))) (sides cs) ends;
  corners_off_line = all_map (λ c. IsPlaced c lo hi) (λ c. ¬ (IsOnOpen c e.a e.b)) (λ c x o. far (open_meets c e.a e.b lo hi o x)) cs (placed lo hi cs h);
  not_backwards = all_map (λ s. IsPlaced s.a lo hi × IsPlaced s.b lo hi) (λ s. ¬ (e ≡ back s)) (λ s x i. far (start_meets e.a e.b lo hi (subst (λ (p : Point). IsPlaced p lo hi) (ap (λ (z : Edge). z.a) (sym i)) x.1))) (sides cs) ends;
}
  where
    ends : AllByRecursion (λ s. IsPlaced s.a lo hi × IsPlaced s.b lo hi) (sides cs)
    ends = side_ends (λ c. IsPlaced c lo hi) cs (placed lo hi cs h)

pub hinders_near : (lo hi : Point) (cs : List Point) (e : Edge) → IsStrictlyConvex cs → AreInBox lo hi cs → IsEdge e → ¬ (IsClearOf cs e) → DoBoxesMeet e.a e.b lo hi
hinders_near lo hi cs e v h n c = elim (boxes_or_not e.a e.b lo hi) [
  | inl m ↦ m
  | inr far ↦ absurd (far (entered_boxes e.a e.b lo hi cs v h (apart_enters e.a e.b cs n v (λ a. c (clear_if_apart lo hi cs e h far a)))))
]

pub stands_near : (lo hi : Point) (zone : List Point) (e : Edge) → IsStrictlyConvex zone → AreInBox lo hi zone → IsEdge e → ¬ (IsApart e.a e.b zone) → DoBoxesMeet e.a e.b lo hi
stands_near lo hi zone e v h n c = entered_boxes e.a e.b lo hi zone v h (apart_enters e.a e.b zone n v c)

-- ---- a line with a far box is apart
all_or_not : (f : Point → ℤ) (cs : List Point) → AllByRecursion (λ c. pos 0 ≤ℤ f c) cs ⊎ ¬ (AllByRecursion (λ c. pos 0 ≤ℤ f c) cs)
all_or_not f [] = inl tt
all_or_not f (c ∷ cs) = elim (either (pos 0) (f c)) [
  | inr h ↦ inr (λ a. off a.0 h)
  | inl h ↦ elim (all_or_not f cs) [ inl i ↦ inl (h, i) | inr n ↦ inr (λ a. n a.1) ]
]
  where
    off : {z : ℤ} → pos 0 ≤ℤ z → z <ℤ pos 0 → ⊥
    off {z} h i = omega (arith, ints)

apart_or_not : (a b : Point) (cs : List Point) → IsApart a b cs ⊎ ¬ (IsApart a b cs)
apart_or_not a b cs = elim (all_or_not (orient a b) cs) [
  | inl h ↦ inl (all_left (All-from_recursion (λ c. pos 0 ≤ℤ orient a b c) cs h))
  | inr n ↦ elim (all_or_not (orient b a) cs) [
    | inl h ↦ inl (right_apart a b cs (All-from_recursion (λ c. pos 0 ≤ℤ orient b a c) cs h))
    | inr m ↦ test (list_any (is_outside a b) (sides cs)) refl n m
  ]
]
  where
    test : (r : Bool) → list_any (is_outside a b) (sides cs) ≡ r → ¬ (AllByRecursion (λ c. pos 0 ≤ℤ orient a b c) cs) → ¬ (AllByRecursion (λ c. pos 0 ≤ℤ orient b a c) cs) → IsApart a b cs ⊎ ¬ (IsApart a b cs)
    test true e n m = inl (outside_apart a b cs e)
    test false e n m = inr (λ p. clash (list_any (is_outside a b) (sides cs)) e (apart_outside a b cs (λ h. n (recursion_from_All (λ c. pos 0 ≤ℤ orient a b c) cs h)) (λ h. m (recursion_from_All (λ c. pos 0 ≤ℤ orient b a c) cs h)) p))

pub far_apart : (lo hi : Point) (cs : List Point) (e : Edge) → IsStrictlyConvex cs → AreInBox lo hi cs → IsEdge e → ¬ (DoBoxesMeet e.a e.b lo hi) → IsApart e.a e.b cs
far_apart lo hi cs e v h n far = elim (apart_or_not e.a e.b cs) [ inl a ↦ a | inr m ↦ absurd (far (stands_near lo hi cs e v h n m)) ]

pub far_clear : (lo hi : Point) (cs : List Point) (e : Edge) → IsStrictlyConvex cs → AreInBox lo hi cs → IsEdge e → ¬ (DoBoxesMeet e.a e.b lo hi) → IsClearOf cs e
far_clear lo hi cs e v h n far = clear_if_apart lo hi cs e h far (far_apart lo hi cs e v h n far)

-- ---- a front line that leaves
element_corner : (c : Point) (ds : List Point) (elements : List (List Point)) → IsElement ds elements → IsCorner c ds → IsElementCorner c elements
element_corner c ds [] i j = absurd i
element_corner c ds (cs ∷ elements) (inl e) j = inl (subst (IsCorner c) (sym e) j)
element_corner c ds (cs ∷ elements) (inr i) j = inr (element_corner c ds elements i j)

pub leaves_at_corners : (front : List Edge) (elements : List (List Point)) (w : Edge) → IsFront front → IsIn w front → ¬ (IsIn w (glue_all front elements)) → IsElementCorner w.a elements × IsElementCorner w.b elements
leaves_at_corners front elements w f i n = of_side (side_of w elements (in_by_times w (all_sides elements) (some (net w front) (times w (all_sides elements)) (times (back w) (all_sides elements)) (times w (glue_all front elements)) (times (back w) (glue_all front elements)) (all_net w elements front) (net_in w front (at_edge IsEdge w front f.edges i) f.single i) (times_not_in w (glue_all front elements) n))))
  where
    some : (b : ℤ) (k l m o : ℕ) → b ≡ (pos k -ℤ pos l) +ℤ (pos m -ℤ pos o) → pos 1 ≤ℤ b → m ≡ 0 → 1 ≤ k
    some b k l m o e h i = omega (arith, ints)

    of_side : HasSide w elements → IsElementCorner w.a elements × IsElementCorner w.b elements
    of_side r = let both = at_edge (λ s. IsCorner s.a r.element × IsCorner s.b r.element) w (sides r.element) (side_ends (λ c. IsCorner c r.element) r.element (in_corners (λ c. IsCorner c r.element) r.element (λ c j. j))) r.has in
        (element_corner w.a r.element elements r.among both.0, element_corner w.b r.element elements r.among both.1)
