-- Walking round a polygon in the code: the sides that are left ahead. Serves the loops of `polygons`.
use Prim.Native.Nat.{ℕ, ◌+◌, ◌-◌, ◌<◌, ◌≤◌}
use lib.IntN.{ℤ, pos, ◌+ℤ◌, ◌*ℤ◌}
use lib.ListN.{length, get_or, take, drop}
use mathlib.Core.Bool.{Bool, true, false, ◌&&◌, ◌||◌}
use mathlib.Core.List.{List}
use mathlib.Core.Path.{◌≡◌, ap, ◌∙◌}
use Rattle.std.specs.List.{list_any, list_all}
use Rattle.std.proofs.lemmas.List.{at_drop_more, at_drop_all, length-take, length-drop}
use native.Mathlib.Omega.{arith}
use Rattle.std.proofs.lemmas.Int.{ints, to_z-of_z}
use mir.Val.{SFits, to_z, of_z}
use mir.Syntax.{w64, w128}
use Rattle.grid_geom.specs.declared.orientation.TheConstants.{TURN}
use Rattle.grid_geom.specs.declared.TheConstants.{MOST_CORNERS}
use Rattle.grid_geom.specs.Bounds.{IsWithin}
use Rattle.grid_geom.specs.declared.Point.{Point}
use Rattle.grid_geom.specs.declared.Edge.{Edge}
use Rattle.grid_geom.specs.Polygon.{way_round}
use Rattle.grid_geom.specs.Area.{sweep_of, shoelace}

-- a side that fails the test is passed by
pub any_ahead : (t : Edge → Bool) (first from d : Point) (rest : List Point) (i : ℕ) → i < length rest → t (record { a = from; b = get_or rest i d }) ≡ false →
    list_any t (way_round first from (drop i rest)) ≡ list_any t (way_round first (get_or rest i d) (drop (i + 1) rest))
any_ahead t first from d rest i h e = at_drop_more (λ (ps : List Point). list_any t (way_round first from ps)) rest i d h ∙ ap (λ (b : Bool). b || list_any t (way_round first (get_or rest i d) (drop (i + 1) rest))) e

-- a side that passes it
pub all_ahead : (t : Edge → Bool) (first from d : Point) (rest : List Point) (i : ℕ) → i < length rest → t (record { a = from; b = get_or rest i d }) ≡ true →
    list_all t (way_round first from (drop i rest)) ≡ list_all t (way_round first (get_or rest i d) (drop (i + 1) rest))
all_ahead t first from d rest i h e = at_drop_more (λ (ps : List Point). list_all t (way_round first from ps)) rest i d h ∙ ap (λ (b : Bool). b && list_all t (way_round first (get_or rest i d) (drop (i + 1) rest))) e

-- and the area that it sweeps
pub sum_ahead : (first from d : Point) (rest : List Point) (i : ℕ) → i < length rest →
    shoelace (way_round first from (drop i rest)) ≡ sweep_of (record { a = from; b = get_or rest i d }) +ℤ shoelace (way_round first (get_or rest i d) (drop (i + 1) rest))
sum_ahead first from d rest i h = at_drop_more (λ (ps : List Point). shoelace (way_round first from ps)) rest i d h

-- the code's sum of the sweeps so far and one more
pub stepped : (s t : ℤ) (i : ℕ) → i ≤ MOST_CORNERS → IsWithin (TURN *ℤ pos i) s → IsWithin TURN t → to_z w128 (of_z w128 (s +ℤ to_z w128 (of_z w128 (to_z w64 (of_z w64 t))))) ≡ s +ℤ t
stepped s t i h hs ht = let ft : SFits w64 t = omega (arith, ints) in let fw : SFits w128 t = omega (arith, ints) in let fs : SFits w128 (s +ℤ t) = omega (arith, ints) in simp to_z-of_z

pub more_within : (s t : ℤ) (i : ℕ) → IsWithin (TURN *ℤ pos i) s → IsWithin TURN t → IsWithin (TURN *ℤ pos (i + 1)) (s +ℤ t)
more_within s t i hs ht = record { least = omega (arith, ints); greatest = omega (arith, ints) }

-- a position in the rest of the corners is below their number
pub rest_below : (corners : List Point) (i : ℕ) → length corners ≤ MOST_CORNERS → i < length (take (length corners - 1) (drop 1 corners)) → i ≤ MOST_CORNERS
rest_below corners i h j = omega (arith, simp (length-take, length-drop) at j)

-- at the end the side back to the first corner is left
pub last_ahead : (first from : Point) (rest : List Point) (i : ℕ) → length rest ≤ i → shoelace (way_round first from (drop i rest)) ≡ sweep_of (record { a = from; b = first }) +ℤ pos 0
last_ahead first from rest i h = at_drop_all (λ (ps : List Point). shoelace (way_round first from ps)) rest i h

pub rest_end : (corners : List Point) (i : ℕ) → length corners ≤ MOST_CORNERS → i ≤ length (take (length corners - 1) (drop 1 corners)) → i ≤ MOST_CORNERS
rest_end corners i h j = omega (arith, simp (length-take, length-drop) at j)

pub swept_first : (s t r : ℤ) {v w : ℤ} → t ≡ v → w ≡ v +ℤ r → s +ℤ w ≡ s +ℤ (t +ℤ r)
swept_first s t r {v} {w} e f = omega (arith, ints, e, f)

pub last_sum : (s t : ℤ) {v w : ℤ} → t ≡ v → w ≡ v +ℤ pos 0 → s +ℤ w ≡ s +ℤ t
last_sum s t {v} {w} e f = omega (arith, ints, e, f)

pub add_first : (s t r : ℤ) {w : ℤ} → w ≡ s +ℤ (t +ℤ r) → w ≡ s +ℤ t +ℤ r
add_first s t r {w} e = omega (arith, ints, e)
