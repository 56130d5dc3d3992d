-- Boxes that hold the corners of elements.
use Rattle.std.proofs.Common.{ℕ, ◌+◌, ◌<◌, ◌≤◌, All, List, [], ◌∷◌, ◌++◌, length, take, slice_index_or, sym, subst, arith, ℤ, neg_ℤ, ◌≤ℤ◌}
use Rattle.std.proofs.lemmas.Int.{ints}
use Rattle.std.proofs.lemmas.List.{get_or-take, length-take-le, take_all, take_more}
use Rattle.std.proofs.lemmas.List.Elements.{All-from_recursion, All-more, All-weaker, recursion_from_All}
use Rattle.digital_tree.proofs.Lists.{all_first, all_second}
use Rattle.grid_geom.specs.declared.TheConstants.{GRID}
use Rattle.grid_geom.specs.declared.Bounds.{Bounds}
use Rattle.grid_geom.specs.declared.Point.{Point}
use Rattle.grid_geom.specs.Boxes.{DoBoundsMeet}
use Rattle.state_law.specs.State.{point_at}
use Rattle.rule_match.specs.Near.{whole_grid}
use Rattle.mesh_run.specs.Remembered.{IsInArea, IsWider}

pub chained : (a b c : ℤ) → a ≤ℤ b → b ≤ℤ c → a ≤ℤ c
chained a b c h k = omega (arith, ints)

wider_holds : (a b : Bounds) (p : Point) → IsWider a b → IsInArea a p → IsInArea b p
wider_holds a b p w h = record {
  right_of_least = chained b.lo.x a.lo.x p.x w.left h.right_of_least;
  left_of_greatest = chained p.x a.hi.x b.hi.x h.left_of_greatest w.right;
  above_least = chained b.lo.y a.lo.y p.y w.below h.above_least;
  below_greatest = chained p.y a.hi.y b.hi.y h.below_greatest w.above;
}

pub wider_on : (a b c : Bounds) → IsWider a b → IsWider b c → IsWider a c
wider_on a b c v w = record {
  left = chained c.lo.x b.lo.x a.lo.x w.left v.left;
  right = chained a.hi.x b.hi.x c.hi.x v.right w.right;
  below = chained c.lo.y b.lo.y a.lo.y w.below v.below;
  above = chained a.hi.y b.hi.y c.hi.y v.above w.above;
}

-- so what meets a box meets one that holds it
pub wider_meets : (a b c : Bounds) → IsWider a b → DoBoundsMeet a c → DoBoundsMeet b c
wider_meets a b c w h = record {
  first_column = chained b.lo.x a.lo.x c.hi.x w.left h.first_column;
  second_column = chained c.lo.x a.hi.x b.hi.x h.second_column w.right;
  first_row = chained b.lo.y a.lo.y c.hi.y w.below h.first_row;
  second_row = chained c.lo.y a.hi.y b.hi.y h.second_row w.above;
}

-- the box turned out, from the grid's greatest corner to its least, is held by each box that meets the grid
pub turned_out : (other : Bounds) → DoBoundsMeet other whole_grid → IsWider (record { lo = record { x = GRID; y = GRID }; hi = record { x = neg_ℤ GRID; y = neg_ℤ GRID } }) other
turned_out other m = record { left = m.first_column; right = m.second_column; below = m.first_row; above = m.second_row }

-- what all have of one item more, all have, and so does the item
pub all_but_last : {X : Type 0} (P : X → Type 0) (xs : List X) (k : ℕ) (d : X) → k < length xs → All P (take (k + 1) xs) → All P (take k xs) × P (slice_index_or xs k d)
all_but_last P xs k d l h = let more = recursion_from_All P (take k xs ++ slice_index_or xs k d ∷ []) (subst (All P) (take_more xs k d l) h) in
    (All-from_recursion P (take k xs) (all_first P (take k xs) (slice_index_or xs k d ∷ []) more), (all_second P (take k xs) (slice_index_or xs k d ∷ []) more).0)

-- the box holds the places of the numbers
abbrev pub Holds : Bounds → List Point → List ℕ → Type 0
Holds area pts ns = All (λ n. IsInArea area (point_at pts n)) ns

still_holds : (a b : Bounds) (pts : List Point) (ns : List ℕ) → IsWider a b → Holds a pts ns → Holds b pts ns
still_holds a b pts ns w h = All-weaker (λ n. IsInArea a (point_at pts n)) (λ n. IsInArea b (point_at pts n)) (λ n i. wider_holds a b (point_at pts n) w i) ns h

pub one_more_held : (a b : Bounds) (pts : List Point) (ns : List ℕ) (k : ℕ) → k < length ns → IsWider a b → Holds a pts (take k ns) → IsInArea b (point_at pts (slice_index_or ns k 0)) → Holds b pts (take (k + 1) ns)
one_more_held a b pts ns k l w h i = All-more (λ n. IsInArea b (point_at pts n)) ns k 0 l (still_holds a b pts (take k ns) w h) i

pub one_more_element : (a b : Bounds) (pts : List Point) (els : List (List ℕ)) (k : ℕ) (d : List ℕ) → k < length els → IsWider a b → All (Holds a pts) (take k els) → Holds b pts (slice_index_or els k d) → All (Holds b pts) (take (k + 1) els)
one_more_element a b pts els k d l w h i = All-more (Holds b pts) els k d l (All-weaker (Holds a pts) (Holds b pts) (λ ns g. still_holds a b pts ns w g) (take k els) h) i

-- all of a list, once as many are taken as it has
pub all_taken : {X : Type 0} (P : X → Type 0) (xs : List X) (k : ℕ) → length xs ≤ k → k ≤ length xs → All P (take k xs) → All P xs
all_taken P xs k l m h i d w = subst P (get_or-take k xs i d (omega arith)) (h i d (let e = length-take-le k xs m in omega (arith, e)))

-- and what all have, as many have as are taken, where these are all
pub all_taken_of : {X : Type 0} (P : X → Type 0) (xs : List X) (k : ℕ) → length xs ≤ k → All P xs → All P (take k xs)
all_taken_of P xs k l h = subst (All P) (sym (take_all k xs l)) h
