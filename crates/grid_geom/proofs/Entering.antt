-- A segment is apart from an open polygon with strictly convex corners exactly where no rational point of the segment is in the polygon.
-- Stands on Convex (corners by positions), ApartOrCommon (the same for lists of lines) and SharedPoint (box and weights); serves `apart`.
use Prim.Native.Nat.{ℕ, zero, suc, ◌<◌}
use lib.IntN.{ℤ, pos, ◌+ℤ◌, ◌-ℤ◌, ◌*ℤ◌}
use lib.Signed.{◌<ℤ◌, ◌≤ℤ◌, le_z}
use lib.ListN.{length, get_or}
use mathlib.Core.Bool.{Bool, true, false, ◌&&◌, ◌||◌}
use mathlib.Core.List.{List, [], ◌∷◌}
use mathlib.Core.Logic.{◌⊎◌, inl, inr}
use mathlib.Core.Path.{◌≡◌, refl, sym, ap, ◌∙◌, subst}
use native.Mathlib.Omega.{arith}
use Rattle.std.proofs.lemmas.Int.{ints}
use Rattle.std.proofs.lemmas.List.Elements.{All-from_recursion, recursion_from_All}
use Rattle.std.specs.List.{All, Any, AllByRecursion, list_any}
use Rattle.grid_geom.specs.declared.Point.{Point}
use Rattle.grid_geom.specs.declared.Edge.{Edge}
use Rattle.grid_geom.specs.Plane.{orient}
use Rattle.grid_geom.specs.Line.{side, whole, through}
use Rattle.grid_geom.specs.Polygon.{sides, is_outside, IsStrictlyConvex, IsApart, outside_a_side, all_left, all_right, DoesEnter}
use Rattle.grid_geom.proofs.Ring.{var, ◌⊕◌, ◌⊖◌, ◌⊗◌, ring}
use Rattle.grid_geom.proofs.Lines.{through_is, orient_whole, orient_back}
use Rattle.grid_geom.proofs.Meeting.{squared, squared_pos}
use Rattle.grid_geom.proofs.Near.{IsDirected}
use Rattle.grid_geom.proofs.OnSegment.{on_closed}
use Rattle.grid_geom.proofs.SharedPoint.{closed_segment}
use Rattle.grid_geom.proofs.Polygon.{lines, AreLeftOf}
use Rattle.grid_geom.proofs.ApartOrCommon as lists
use Rattle.grid_geom.proofs.ApartOrCommon.{HasAllLeft, IsStrict, IsBeyondSome, IsApartSegment, apart_has_none, apart_or_common}
use Rattle.grid_geom.proofs.Booleans.{le_true, true_le, clash}
use Rattle.grid_geom.proofs.Convex.{strict, inside_lines, lines_inside}

-- both ends of a-b are on the closed outer side of e
abbrev AreOutside : Point → Point → Edge → Type 0
AreOutside a b e = (orient e.a e.b a ≤ℤ pos 0) × (orient e.a e.b b ≤ℤ pos 0)

at_side : (u w p : Point) → side (through u w) (whole p) ≡ orient u w p
at_side u w p = through_is u w (whole p) ∙ orient_whole u w p

at_most : {y z : ℤ} → y ≡ z → z ≤ℤ pos 0 → y ≤ℤ pos 0
at_most {y} {z} e h = omega (arith, ints)

at_least : {y z : ℤ} → y ≡ z → pos 0 ≤ℤ z → pos 0 ≤ℤ y
at_least {y} {z} e h = omega (arith, ints)

-- ---- the tests of the code
one_outside : (a b : Point) (e : Edge) → is_outside a b e ≡ true → AreOutside a b e
one_outside a b e h = elim (le_z (orient e.a e.b a) (pos 0)) as (λ (r : Bool). le_z (orient e.a e.b a) (pos 0) ≡ r → (r && le_z (orient e.a e.b b) (pos 0)) ≡ true → AreOutside a b e)
    [ true ↦ λ f g. (le_true (orient e.a e.b a) (pos 0) f, le_true (orient e.a e.b b) (pos 0) g) | false ↦ λ f g. absurd (cc) ] refl h

outside_one : (a b : Point) (e : Edge) → AreOutside a b e → is_outside a b e ≡ true
outside_one a b e h = ap (λ (r : Bool). r && le_z (orient e.a e.b b) (pos 0)) (true_le (orient e.a e.b a) (pos 0) h.0) ∙ true_le (orient e.a e.b b) (pos 0) h.1

some_outside : (a b : Point) (es : List Edge) → list_any (is_outside a b) es ≡ true → Any (AreOutside a b) es
some_outside a b [] h = absurd (cc)
some_outside a b (e ∷ es) h = elim (is_outside a b e) as (λ (r : Bool). is_outside a b e ≡ r → (r || list_any (is_outside a b) es) ≡ true → Any (AreOutside a b) (e ∷ es))
    [ true ↦ λ f g. (0, e, omega arith, refl, one_outside a b e f) | false ↦ λ f g. later (some_outside a b es g) ] refl h
  where
    later : Any (AreOutside a b) es → Any (AreOutside a b) (e ∷ es)
    later s = (suc s.0, s.1, omega (arith, s.2), s.3, s.4)

outside_some : (a b : Point) (es : List Edge) (k : ℕ) (x : Edge) → k < length es → get_or es k x ≡ x → AreOutside a b x → list_any (is_outside a b) es ≡ true
outside_some a b [] k x h e o = absurd (omega (arith, h))
outside_some a b (y ∷ es) zero x h e o = ap (λ (r : Bool). r || list_any (is_outside a b) es) (outside_one a b y (subst (AreOutside a b) (sym e) o))
outside_some a b (y ∷ es) (suc k) x h e o = either_way (is_outside a b y) (outside_some a b es k x (omega (arith, h)) e o)
  where
    either_way : (r : Bool) {s : Bool} → s ≡ true → (r || s) ≡ true
    either_way true {s} f = refl
    either_way false {s} f = f

-- ---- the same for the lists of lines
beyond_some : (a b : Point) (es : List Edge) → list_any (is_outside a b) es ≡ true → IsBeyondSome a b (lines es)
beyond_some a b [] h = absurd (cc)
beyond_some a b (e ∷ es) h = elim (is_outside a b e) as (λ (r : Bool). is_outside a b e ≡ r → (r || list_any (is_outside a b) es) ≡ true → IsBeyondSome a b (lines (e ∷ es)))
    [ true ↦ λ f g. inl (at_most (at_side e.a e.b a) (one_outside a b e f).0, at_most (at_side e.a e.b b) (one_outside a b e f).1) | false ↦ λ f g. inr (beyond_some a b es g) ] refl h

some_beyond : (a b : Point) (es : List Edge) → IsBeyondSome a b (lines es) → list_any (is_outside a b) es ≡ true
some_beyond a b [] h = absurd h
some_beyond a b (e ∷ es) (inl h) = ap (λ (r : Bool). r || list_any (is_outside a b) es) (outside_one a b e (at_most (sym (at_side e.a e.b a)) h.0, at_most (sym (at_side e.a e.b b)) h.1))
some_beyond a b (e ∷ es) (inr h) = either_way (is_outside a b e) (some_beyond a b es h)
  where
    either_way : (r : Bool) {s : Bool} → s ≡ true → (r || s) ≡ true
    either_way true {s} f = refl
    either_way false {s} f = f

left_lines : (a b : Point) (ws : List Point) → AllByRecursion (λ c. pos 0 ≤ℤ orient a b c) ws → AreLeftOf (through a b) ws
left_lines a b [] h = tt
left_lines a b (w ∷ ws) h = (at_least (at_side a b w) h.0, left_lines a b ws h.1)

lines_left : (a b : Point) (ws : List Point) → AreLeftOf (through a b) ws → AllByRecursion (λ c. pos 0 ≤ℤ orient a b c) ws
lines_left a b [] h = tt
lines_left a b (w ∷ ws) h = (at_least (sym (at_side a b w)) h.0, lines_left a b ws h.1)

has_left : (a b o u : Point) (ws : List Point) → AllByRecursion (λ c. pos 0 ≤ℤ orient a b c) (o ∷ (u ∷ ws)) → HasAllLeft (through a b) o u ws
has_left a b o u ws h = let l : AreLeftOf (through a b) (o ∷ (u ∷ ws)) = left_lines a b (o ∷ (u ∷ ws)) h in record { o_left = l.0; u_left = l.1.0; others_left = l.1.1 }

left_has : (a b o u : Point) (ws : List Point) → HasAllLeft (through a b) o u ws → AllByRecursion (λ c. pos 0 ≤ℤ orient a b c) (o ∷ (u ∷ ws))
left_has a b o u ws h = lines_left a b (o ∷ (u ∷ ws)) (h.o_left, (h.u_left, h.others_left))

-- right of a-b is left of b-a
turned_back : (a b c : Point) → orient b a c ≡ pos 0 -ℤ orient a b c
turned_back a b c = sym (orient_whole b a c) ∙ orient_back a b (whole c) ∙ ap (λ (z : ℤ). pos 0 -ℤ z) (orient_whole a b c)

to_right : (a b : Point) (cs : List Point) → AllByRecursion (λ c. pos 0 ≤ℤ orient b a c) cs → AllByRecursion (λ c. orient a b c ≤ℤ pos 0) cs
to_right a b [] h = tt
to_right a b (c ∷ cs) h = (flipped (turned_back a b c) h.0, to_right a b cs h.1)
  where
    flipped : {y z : ℤ} → y ≡ pos 0 -ℤ z → pos 0 ≤ℤ y → z ≤ℤ pos 0
    flipped {y} {z} e h = omega (arith, ints)

to_left : (a b : Point) (cs : List Point) → AllByRecursion (λ c. orient a b c ≤ℤ pos 0) cs → AllByRecursion (λ c. pos 0 ≤ℤ orient b a c) cs
to_left a b [] h = tt
to_left a b (c ∷ cs) h = (flipped (turned_back a b c) h.0, to_left a b cs h.1)
  where
    flipped : {y z : ℤ} → y ≡ pos 0 -ℤ z → z ≤ℤ pos 0 → pos 0 ≤ℤ y
    flipped {y} {z} e h = omega (arith, ints)

-- ---- apart by its three tests
pub right_apart : (a b : Point) (corners : List Point) → All (λ c. pos 0 ≤ℤ orient b a c) corners → IsApart a b corners
right_apart a b corners h = all_right (All-from_recursion (λ c. orient a b c ≤ℤ pos 0) corners (to_right a b corners (recursion_from_All (λ c. pos 0 ≤ℤ orient b a c) corners h)))

pub outside_apart : (a b : Point) (corners : List Point) → list_any (is_outside a b) (sides corners) ≡ true → IsApart a b corners
outside_apart a b corners h = outside_a_side (some_outside a b (sides corners) h)

pub apart_outside : (a b : Point) (corners : List Point) → (All (λ c. pos 0 ≤ℤ orient a b c) corners → ⊥) → (All (λ c. pos 0 ≤ℤ orient b a c) corners → ⊥) → IsApart a b corners → list_any (is_outside a b) (sides corners) ≡ true
apart_outside a b corners l r (outside_a_side s) = outside_some a b (sides corners) s.0 s.1 s.2 s.3 s.4
apart_outside a b corners l r (all_left h) = absurd (l h)
apart_outside a b corners l r (all_right h) = absurd (r (All-from_recursion (λ c. pos 0 ≤ℤ orient b a c) corners (to_left a b corners (recursion_from_All (λ c. orient a b c ≤ℤ pos 0) corners h))))

-- ---- and by rational points
to_lists : (a b o u : Point) (ws : List Point) → IsApart a b (o ∷ (u ∷ ws)) → IsApartSegment o u ws a b
to_lists a b o u ws (outside_a_side s) = lists.beyond (beyond_some a b (sides (o ∷ (u ∷ ws))) (outside_some a b (sides (o ∷ (u ∷ ws))) s.0 s.1 s.2 s.3 s.4))
to_lists a b o u ws (all_left h) = lists.all_left (has_left a b o u ws (recursion_from_All (λ c. pos 0 ≤ℤ orient a b c) (o ∷ (u ∷ ws)) h))
to_lists a b o u ws (all_right h) = lists.all_right (has_left b a o u ws (to_left a b (o ∷ (u ∷ ws)) (recursion_from_All (λ c. orient a b c ≤ℤ pos 0) (o ∷ (u ∷ ws)) h)))

from_lists : (a b o u : Point) (ws : List Point) → IsApartSegment o u ws a b → IsApart a b (o ∷ (u ∷ ws))
from_lists a b o u ws (lists.beyond h) = outside_apart a b (o ∷ (u ∷ ws)) (some_beyond a b (sides (o ∷ (u ∷ ws))) h)
from_lists a b o u ws (lists.all_left h) = all_left (All-from_recursion (λ c. pos 0 ≤ℤ orient a b c) (o ∷ (u ∷ ws)) (left_has a b o u ws h))
from_lists a b o u ws (lists.all_right h) = right_apart a b (o ∷ (u ∷ ws)) (All-from_recursion (λ c. pos 0 ≤ℤ orient b a c) (o ∷ (u ∷ ws)) (left_has b a o u ws h))

directed : (a b : Point) → ¬ (a ≡ b) → IsDirected (through a b)
directed a b n = record { direction = subst (λ (z : ℤ). pos 0 <ℤ z) same (squared_pos a b n) }
  where
    same : squared a b ≡ (a.y -ℤ b.y) *ℤ (a.y -ℤ b.y) +ℤ (b.x -ℤ a.x) *ℤ (b.x -ℤ a.x)
    same = ring (a.x ∷ a.y ∷ b.x ∷ b.y ∷ []) ((var 2 ⊖ var 0) ⊗ (var 2 ⊖ var 0) ⊕ (var 3 ⊖ var 1) ⊗ (var 3 ⊖ var 1)) ((var 1 ⊖ var 3) ⊗ (var 1 ⊖ var 3) ⊕ (var 2 ⊖ var 0) ⊗ (var 2 ⊖ var 0)) refl

pub apart_none : (a b : Point) (corners : List Point) → ¬ (a ≡ b) → IsStrictlyConvex corners → IsApart a b corners → DoesEnter a b corners → ⊥
apart_none a b [] n v h s = absurd (omega (arith, v.enough))
apart_none a b (o ∷ []) n v h s = absurd (omega (arith, v.enough))
apart_none a b (o ∷ (u ∷ ws)) n v h s = apart_has_none o u ws a b s.at (strict o u ws v).polygon (directed a b n) (directed b a (λ e. n (sym e))) (to_lists a b o u ws h) s.rational.positive
    (closed_segment a b s.at s.rational.positive s.on) (inside_lines s.at (sides (o ∷ (u ∷ ws))) s.inside.left)

-- one of the two holds
apart_or_enters : (a b : Point) (corners : List Point) → ¬ (a ≡ b) → IsStrictlyConvex corners → IsApart a b corners ⊎ DoesEnter a b corners
apart_or_enters a b [] n v = absurd (omega (arith, v.enough))
apart_or_enters a b (o ∷ []) n v = absurd (omega (arith, v.enough))
apart_or_enters a b (o ∷ (u ∷ ws)) n v = elim (apart_or_common o u ws a b (strict o u ws v) n) [
  | inl i ↦ inl (from_lists a b o u ws i)
  | inr m ↦ inr (record { at = m.at; rational = record { positive = m.rational }; on = on_closed a b m.at m.rational m.on; inside = record { left = lines_inside m.at (sides (o ∷ (u ∷ ws))) m.inside } })
]

pub apart_enters : (a b : Point) (corners : List Point) → ¬ (a ≡ b) → IsStrictlyConvex corners → ¬ (IsApart a b corners) → DoesEnter a b corners
apart_enters a b corners n v h = elim (apart_or_enters a b corners n v) [ inl i ↦ absurd (h i) | inr m ↦ m ]

pub unentered_apart : (a b : Point) (corners : List Point) → ¬ (a ≡ b) → IsStrictlyConvex corners → ¬ (DoesEnter a b corners) → IsApart a b corners
unentered_apart a b corners n v h = elim (apart_or_enters a b corners n v) [ inl i ↦ i | inr m ↦ absurd (h m) ]

-- the test of apart, by rational points
pub apart_test : (a b : Point) (corners : List Point) (r : Bool) → ¬ (a ≡ b) → IsStrictlyConvex corners → (r ≡ true → IsApart a b corners) × (IsApart a b corners → r ≡ true) → (r ≡ true → DoesEnter a b corners → ⊥) × (r ≡ false → DoesEnter a b corners)
apart_test a b corners r n v h = (λ t s. apart_none a b corners n v (h.0 t) s, λ f. apart_enters a b corners n v (λ i. clash r f (h.1 i)))
