-- The pieces of a segment lead from its first end to its last, each strictly forward: the middle of a part that ends on the way to the segment's end is on that way, and the part's end is on the way from the middle.
use Rattle.std.proofs.Common.{◌≡◌, ℕ, zero, suc, List, [], ◌∷◌, ◌++◌, Option, Some, None, refl, sym, ap, ◌∙◌, subst, arith, inl, inr, ◌⊎◌, ℤ, pos, ◌+ℤ◌, ◌-ℤ◌, ◌*ℤ◌, ◌≤ℤ◌}
use Rattle.std.specs.Int.{int_max, int_min}
use Rattle.std.proofs.lemmas.Int.{ints, clamps}
use Rattle.grid_geom.specs.declared.Point.{Point}
use Rattle.grid_geom.specs.declared.Edge.{Edge}
use Rattle.grid_geom.specs.Plane.{orient}
use Rattle.grid_geom.specs.Sides.{IsOnOpen}
use Rattle.grid_geom.proofs.Lines.{same_place}
use Rattle.grid_geom.proofs.Ring.{var, num, ◌⊖◌, ◌⊗◌, ring}
use Rattle.wind_law.specs.Chains.{edge}
use Rattle.size_field.specs.Cutting.{cut_at, on_both_sides, parts, IsMiddle}
use Rattle.size_field.specs.Parts.{IsPart}
use Rattle.size_field.proofs.Middles.{cut_is, middle_on_open}
use Rattle.size_field.proofs.PartLaws.{halves}
use Rattle.mesh_check.specs.Walked.{DoesMove}

-- on the way from a place to the last one: there, or between
abbrev pub IsAlong : Point → Point → Point → Type 0
IsAlong p at last = (p ≡ last) ⊎ IsOnOpen p at last

-- ---- the middle
other : (u w z : ℤ) → pos 2 *ℤ z ≡ u +ℤ w → w ≡ pos 2 *ℤ z -ℤ u
other u w z e = omega (arith, ints)

-- the turn to the end of a part is twice that to its middle
doubled : (a l m b : Point) → IsMiddle m a b → orient a l b ≡ pos 2 *ℤ orient a l m
doubled a l m b h =
    (λ i. (l.x -ℤ a.x) *ℤ (other a.y b.y m.y h.y i -ℤ a.y) -ℤ (l.y -ℤ a.y) *ℤ (other a.x b.x m.x h.x i -ℤ a.x))
    ∙ ring (a.x ∷ a.y ∷ l.x ∷ l.y ∷ m.x ∷ m.y ∷ [])
    ((var 2 ⊖ var 0) ⊗ (num (pos 2) ⊗ var 5 ⊖ var 1 ⊖ var 1) ⊖ (var 3 ⊖ var 1) ⊗ (num (pos 2) ⊗ var 4 ⊖ var 0 ⊖ var 0))
    (num (pos 2) ⊗ ((var 2 ⊖ var 0) ⊗ (var 5 ⊖ var 1) ⊖ (var 3 ⊖ var 1) ⊗ (var 4 ⊖ var 0))) refl

-- from the middle the turn is that from the start
from_middle : (a l m b : Point) → IsMiddle m a b → orient m l b ≡ orient a l m
from_middle a l m b h =
    (λ i. (l.x -ℤ m.x) *ℤ (other a.y b.y m.y h.y i -ℤ m.y) -ℤ (l.y -ℤ m.y) *ℤ (other a.x b.x m.x h.x i -ℤ m.x))
    ∙ ring (a.x ∷ a.y ∷ l.x ∷ l.y ∷ m.x ∷ m.y ∷ [])
    ((var 2 ⊖ var 4) ⊗ (num (pos 2) ⊗ var 5 ⊖ var 1 ⊖ var 5) ⊖ (var 3 ⊖ var 5) ⊗ (num (pos 2) ⊗ var 4 ⊖ var 0 ⊖ var 4))
    ((var 2 ⊖ var 0) ⊗ (var 5 ⊖ var 1) ⊖ (var 3 ⊖ var 1) ⊗ (var 4 ⊖ var 0)) refl

halved : (s t : ℤ) → s ≡ pos 2 *ℤ t → s ≡ pos 0 → t ≡ pos 0
halved s t e h = omega (arith, ints)

-- between two coordinates a sum of halves leaves the last one only where both are it
last_alone : (a b l m : ℤ) → pos 2 *ℤ m ≡ a +ℤ b → int_min a l ≤ℤ b → b ≤ℤ int_max a l → m ≡ l → b ≡ l
last_alone a b l m e f g h = omega (arith, ints, clamps)

start_alone : (a b m : ℤ) → pos 2 *ℤ m ≡ a +ℤ b → m ≡ a → a ≡ b
start_alone a b m e h = omega (arith, ints)

end_alone : (a b m : ℤ) → pos 2 *ℤ m ≡ a +ℤ b → b ≡ m → a ≡ b
end_alone a b m e h = omega (arith, ints)

middle_on_way : (a b m last : Point) → IsMiddle m a b → ¬ (a ≡ b) → IsOnOpen b a last → IsOnOpen m a last
middle_on_way a b m last h two o = record {
  straight = halved (orient a last b) (orient a last m) (doubled a last m b h) o.straight;
  right_of_least = omega (arith, ints, clamps, h.x, o.right_of_least, o.left_of_greatest);
  left_of_greatest = omega (arith, ints, clamps, h.x, o.right_of_least, o.left_of_greatest);
  above_least = omega (arith, ints, clamps, h.y, o.above_least, o.below_greatest);
  below_greatest = omega (arith, ints, clamps, h.y, o.above_least, o.below_greatest);
  not_a = λ e. two (same_place a b (start_alone a.x b.x m.x h.x (ap (λ (p : Point). p.x) e)) (start_alone a.y b.y m.y h.y (ap (λ (p : Point). p.y) e)));
  not_b = λ e. o.not_b (same_place b last (last_alone a.x b.x last.x m.x h.x o.right_of_least o.left_of_greatest (ap (λ (p : Point). p.x) e))
      (last_alone a.y b.y last.y m.y h.y o.above_least o.below_greatest (ap (λ (p : Point). p.y) e)));
}

end_on_way : (a b m last : Point) → IsMiddle m a b → ¬ (a ≡ b) → IsOnOpen b a last → IsOnOpen b m last
end_on_way a b m last h two o = record {
  straight = from_middle a last m b h ∙ halved (orient a last b) (orient a last m) (doubled a last m b h) o.straight;
  right_of_least = omega (arith, ints, clamps, h.x, o.right_of_least, o.left_of_greatest);
  left_of_greatest = omega (arith, ints, clamps, h.x, o.right_of_least, o.left_of_greatest);
  above_least = omega (arith, ints, clamps, h.y, o.above_least, o.below_greatest);
  below_greatest = omega (arith, ints, clamps, h.y, o.above_least, o.below_greatest);
  not_a = λ e. two (same_place a b (end_alone a.x b.x m.x h.x (ap (λ (p : Point). p.x) e)) (end_alone a.y b.y m.y h.y (ap (λ (p : Point). p.y) e)));
  not_b = o.not_b;
}

first_along : (a b m last : Point) → IsMiddle m a b → ¬ (a ≡ b) → IsAlong b a last → IsAlong m a last
first_along a b m last h two (inl e) = inr (subst (IsOnOpen m a) e (middle_on_open a b m h two))
first_along a b m last h two (inr o) = inr (middle_on_way a b m last h two o)

second_along : (a b m last : Point) → IsMiddle m a b → ¬ (a ≡ b) → IsAlong b a last → IsAlong b m last
second_along a b m last h two (inl e) = inl e
second_along a b m last h two (inr o) = inr (end_on_way a b m last h two o)

-- ---- edges that lead from one place to another, each strictly forward on the way to the last
abbrev pub DoLead : Point → Point → List Edge → Point → Type 0
DoLead last from [] to = from ≡ to
DoLead last from (e ∷ es) to = DoesMove from last e × DoLead last e.b es to

lead_on : (last from middle to : Point) (es fs : List Edge) → DoLead last from es middle → DoLead last middle fs to → DoLead last from (es ++ fs) to
lead_on last from middle to [] fs h k = subst (λ (p : Point). DoLead last p fs to) (sym h) k
lead_on last from middle to (e ∷ es) fs h k = (h.0, lead_on last e.b middle to es fs h.1 k)

pub parts_lead : (bound : Point → ℕ) (n : ℕ) (a b last : Point) → IsPart (edge a b) → IsAlong b a last → DoLead last a (parts bound n a b) b
unfolding parts
parts_lead bound zero a b last part along = (record { begins = refl; moves = λ e. part.two_ends (sym e); along = along }, refl)
parts_lead bound (suc n) a b last part along = by (λ c d h k. parts_lead bound n c d last h k) (cut_at bound a b) refl
  where
    by : ((c d : Point) → IsPart (edge c d) → IsAlong d c last → DoLead last c (parts bound n c d) d) → (o : Option Point) → cut_at bound a b ≡ o → DoLead last a (on_both_sides (parts bound n) a b o) b
    by each None e = (record { begins = refl; moves = λ e. part.two_ends (sym e); along = along }, refl)
    by each (Some m) e =
        let two = halves bound a b m part e in
        let is = cut_is bound a b m e in
        lead_on last a m b (parts bound n a m) (parts bound n m b) (each a m two.first (first_along a b m last is part.two_ends along)) (each m b two.second (second_along a b m last is part.two_ends along))
