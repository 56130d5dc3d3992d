-- The near lines of the walk: a number is one of them just where it is that of a near line, each stands once, and each is found by its number. So each near line has a place in their list. And boxes that meet in the words of grid_geom meet as the walk tests them.
use lib.Signed.{◌≤ℤ◌, le_z}
use Rattle.std.specs.Int.{int_max, int_min}
use Rattle.std.proofs.Common.{◌≡◌, ◌≢◌, ◌<◌, ℕ, ℤ, arith, Bool, true, false, ◌&&◌, ◌||◌, List, length, slice_index_or, Option, None, Some, is_some, nat_eq, refl, sym, ap, ◌∙◌, subst}
use Rattle.std.specs.Option.{option_map_or}
use Rattle.std.specs.List.{All, list_any}
use Rattle.std.proofs.lemmas.Bool.{eqb-true}
use Rattle.std.proofs.lemmas.Bool.Decides.{Decides-eqb}
use Rattle.std.proofs.lemmas.Grind.{get_or_default_zero}
use Rattle.std.proofs.lemmas.List.Elements.{All-weaker, filter_passes}
use Rattle.std.proofs.lemmas.List.Folds.{Any-from_list_any}
use Rattle.std.proofs.lemmas.List.Kept.{AllPairs-filter}
use Rattle.std.proofs.lemmas.Map.Made.{AllPairs-from_IsDistinct, IsDistinct-from_AllPairs}
use Rattle.std.proofs.lemmas.Map.Views.{any-filter_same}
use Rattle.std.proofs.lemmas.Int.{ints, clamps}
use Rattle.grid_geom.specs.declared.Bounds.{Bounds}
use Rattle.grid_geom.specs.declared.Edge.{Edge}
use Rattle.grid_geom.specs.Sides.{DoSpansMeet, DoBoxesMeet}
use Rattle.state_law.specs.State.{pair_edge}
use Rattle.front_chain.specs.Front.{FrontState, IsFrontState, IsWalk, AreNear, line_at, does_reach, does_meet, is_near, near_in_walk}

-- a near line is a front line
pub near_line : (f : FrontState) (b : Bounds) (n : ℕ) → is_near f b n ≡ true → is_some (line_at f.lines n) ≡ true
near_line f b n = by (line_at f.lines n)
  where
    by : (o : Option (ℕ × ℕ)) → option_map_or (λ ends. does_meet b (pair_edge f.points ends)) o false ≡ true → is_some o ≡ true
    by None h = h
    by (Some ends) h = refl

-- so it is of the walk
walk_near : (f : FrontState) (b : Bounds) (n : ℕ) → IsWalk f.walk f.lines → list_any (nat_eq n) (near_in_walk f b) ≡ is_near f b n
walk_near f b n w = any-filter_same (nat_eq n) (is_near f b) (is_near f b n) (λ k e. ap (is_near f b) (sym (eqb-true n k e))) f.walk ∙ by (is_near f b n) refl
  where
    by : (t : Bool) → is_near f b n ≡ t → (t && list_any (nat_eq n) f.walk) ≡ t
    by true e = w.each n ∙ near_line f b n e
    by false e = refl

pub all_near : (f : FrontState) (b : Bounds) (numbers : List ℕ) → IsFrontState f → numbers ≡ near_in_walk f b → AreNear f b numbers
all_near f b numbers h is = subst (AreNear f b) (sym is) (record {
  each = λ n. walk_near f b n h.walked;
  once = IsDistinct-from_AllPairs Decides-eqb (near_in_walk f b) (AllPairs-filter (λ m n. m ≢ n) (is_near f b) f.walk (AllPairs-from_IsDistinct Decides-eqb f.walk h.walked.once));
})

pub all_there : (f : FrontState) (b : Bounds) (numbers : List ℕ) → numbers ≡ near_in_walk f b → All (λ n. is_some (line_at f.lines n) ≡ true) numbers
all_there f b numbers is = subst (All (λ n. is_some (line_at f.lines n) ≡ true)) (sym is)
    (All-weaker (λ n. is_near f b n ≡ true) (λ n. is_some (line_at f.lines n) ≡ true) (near_line f b) (near_in_walk f b) (filter_passes (is_near f b) f.walk))

-- the place of a near line's number in their list
pub place_of : {f : FrontState} {b : Bounds} {numbers : List ℕ} → AreNear f b numbers → (n : ℕ) → is_near f b n ≡ true → (i : ℕ) × (i < length numbers) × (slice_index_or numbers i 0 ≡ n)
place_of {numbers = numbers} near n h =
    let a = Any-from_list_any (nat_eq n) numbers (near.each n ∙ h) in
    (a.0, a.2, sym (get_or_default_zero numbers a.0 a.1 a.2) ∙ a.3 ∙ sym (eqb-true n a.1 a.4))

-- ---- boxes that meet, as the walk tests them
spans_reach : (least greatest u w : ℤ) → least ≤ℤ greatest → DoSpansMeet u w least greatest → does_reach least greatest u w ≡ true
spans_reach least greatest u w h m = both (le_z u greatest) (le_z w greatest) (le_z least u) (le_z least w) (low least greatest u w h m.not_after) (high least greatest u w h m.not_before)
  where
    both : (a b c d : Bool) → (a || b) ≡ true → (c || d) ≡ true → ((a || b) && (c || d)) ≡ true
    both a b c d e f = cc

    low : (least greatest u w : ℤ) → least ≤ℤ greatest → int_min u w ≤ℤ int_max least greatest → (le_z u greatest || le_z w greatest) ≡ true
    low least greatest u w h i = grind (arith, ints, clamps)

    high : (least greatest u w : ℤ) → least ≤ℤ greatest → int_min least greatest ≤ℤ int_max u w → (le_z least u || le_z least w) ≡ true
    high least greatest u w h i = grind (arith, ints, clamps)

-- so a line whose box has a point in common with a box that isn't empty is near
pub boxes_meet : (near : Bounds) (e : Edge) → near.lo.x ≤ℤ near.hi.x → near.lo.y ≤ℤ near.hi.y → DoBoxesMeet e.a e.b near.lo near.hi → does_meet near e ≡ true
boxes_meet near e h i m = both (does_reach near.lo.x near.hi.x e.a.x e.b.x) (does_reach near.lo.y near.hi.y e.a.y e.b.y) (spans_reach near.lo.x near.hi.x e.a.x e.b.x h m.columns) (spans_reach near.lo.y near.hi.y e.a.y e.b.y i m.rows)
  where
    both : (a b : Bool) → a ≡ true → b ≡ true → (a && b) ≡ true
    both a b e f = cc
