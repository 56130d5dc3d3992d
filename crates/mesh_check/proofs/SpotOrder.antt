-- Points sorted by place: what a sort leaves of them, and the least two at one place.
use Rattle.std.proofs.Common.{◌≡◌, ◌⊎◌, ℕ, ◌+◌, ◌<◌, ◌≤◌, false, List, length, slice_index_or, Any, Contains, AllPairs, inl, inr, sym, ◌∙◌, ap, subst, arith, Ordering, ◌≢◌}
use lib.IntN.{ℤ}
use lib.Signed.{◌<ℤ◌}
use Rattle.std.proofs.lemmas.Int.{ints}
use Rattle.std.proofs.lemmas.Cmp.{then_total, on_total, int_cmp_total, nat_cmp_total}
use Rattle.std.proofs.lemmas.List.{get_or_default}
use Rattle.std.proofs.lemmas.List.Sorted.{sorted_far, ranks_by, All-permutation, Contains-permutation}
use Rattle.std.specs.Cmp.{IsTotalOrder}
use Rattle.std.specs.Ordering.{is_lt, int_cmp, nat_cmp, ordering_then}
use Rattle.std.specs.List.Sorted.{IsPermutation}
use Rattle.grid_geom.specs.declared.Point.{Point}
use Rattle.geom_check.proofs.Reordered.{AllPairs-reordered}
use Rattle.mesh_check.specs.declared.spots.Spot.{Spot}
use Rattle.mesh_check.specs.Spots.{spot_place, IsBefore, IsSpotOf, AreSpots}

-- ---- the order
abbrev pub by_spot : Spot → Spot → Ordering
by_spot s t = ordering_then (int_cmp s.x t.x) (ordering_then (int_cmp s.y t.y) (nat_cmp s.index t.index))

by_spot_total : IsTotalOrder by_spot
by_spot_total = then_total (on_total (λ (s : Spot). s.x) int_cmp_total) (then_total (on_total (λ (s : Spot). s.y) int_cmp_total) (on_total (λ (s : Spot). s.index) nat_cmp_total))

-- not after, by the three numbers
not_less : (x y : ℤ) (i : ℕ) (u v : ℤ) (j : ℕ) → is_lt (ordering_then (int_cmp u x) (ordering_then (int_cmp v y) (nat_cmp j i))) ≡ false → (x <ℤ u) ⊎ ((x ≡ u) × ((y <ℤ v) ⊎ ((y ≡ v) × (i ≤ j))))
not_less x y i u v j e = grind (arith, ints)

-- ---- the spots before they are sorted
-- the spot of the point at a position
abbrev pub IsSpotAt : List Point → ℕ → Spot → Type 0
IsSpotAt points k s = (s.index ≡ k) × ((d : Point) → k < length points → slice_index_or points k d ≡ spot_place s)

-- the spots of the first points
pub record AreFirst (points : List Point) (count : ℕ) (spots : List Spot) : Type 0 where
  pub long : length spots ≡ count
  pub each : (k : ℕ) (d : Spot) → k < count → IsSpotAt points k (slice_index_or spots k d)

-- ---- and after
abbrev some_spot : Spot
some_spot = record { x = lib.IntN.pos 0; y = lib.IntN.pos 0; index = 0 }

same_place : (s t : Spot) → s.x ≡ t.x → s.y ≡ t.y → spot_place s ≡ spot_place t
same_place s t e f = ap (λ (z : ℤ). record { x = z; y = s.y }) e ∙ ap (λ (z : ℤ). record { x = t.x; y = z }) f

before_of : (s t : Spot) → s.index ≢ t.index → (s.x <ℤ t.x) ⊎ ((s.x ≡ t.x) × ((s.y <ℤ t.y) ⊎ ((s.y ≡ t.y) × (s.index ≤ t.index)))) → IsBefore s t
before_of s t n (inl h) = inl (inl h)
before_of s t n (inr (e, inl h)) = inl (inr (e, h))
before_of s t n (inr (e, inr (f, h))) = inr (same_place s t e f, strictly s.index t.index n h)
  where
    strictly : (i j : ℕ) → i ≢ j → i ≤ j → i < j
    strictly i j n h = grind arith

-- different positions
abbrev AreOther : Spot → Spot → Type 0
AreOther s t = s.index ≢ t.index

first_other : (points : List Point) (spots : List Spot) → AreFirst points (length points) spots → AllPairs AreOther spots
first_other points spots h i j d l k e = clash (slice_index_or spots i d).index (slice_index_or spots j d).index i j (h.each i d (omega (arith, h.long))).0 (h.each j d (omega (arith, h.long))).0 l e
  where
    clash : (m n i j : ℕ) → m ≡ i → n ≡ j → i < j → m ≡ n → ⊥
    clash m n i j e f l g = omega arith

pub spots_sorted : (points : List Point) (old new : List Spot) (count : ℕ) → AreFirst points count old → length points ≤ count → count ≤ length points → IsPermutation old new
    → ((k : ℕ) (d : Spot) → 0 ≤ k → k + 1 < length new → is_lt (by_spot (slice_index_or new (k + 1) d) (slice_index_or new k d)) ≡ false) → AreSpots points new
spots_sorted points old new count h least most p up = record {
  each = All-permutation (IsSpotOf points) old new p (λ k d l. let s = all.each k d (omega (arith, all.long)) in spot_of k (slice_index_or old k d) s.0 (s.1) (omega (arith, all.long)));
  all = λ i l. found i (Contains-permutation old new (slice_index_or old i some_spot) p (i, omega (arith, all.long), get_or_default old i (slice_index_or old i some_spot) some_spot (omega (arith, all.long)))) (all.each i some_spot l).0;
  ordered = λ i j d l k. before_of (slice_index_or new i d) (slice_index_or new j d) (AllPairs-reordered AreOther old new (λ s t n e. n (sym e)) p (first_other points old all) i j d l k)
      (not_less (slice_index_or new i d).x (slice_index_or new i d).y (slice_index_or new i d).index (slice_index_or new j d).x (slice_index_or new j d).y (slice_index_or new j d).index
      (sorted_far (λ s t. is_lt (by_spot s t)) (ranks_by by_spot_total (λ (s : Spot). s)) new up i j d (omega arith) k));
}
  where
    all : AreFirst points (length points) old
    all = subst (λ (n : ℕ). AreFirst points n old) (let e : count ≡ length points = omega arith in e) h

    spot_of : (k : ℕ) (s : Spot) → s.index ≡ k → ((d : Point) → k < length points → slice_index_or points k d ≡ spot_place s) → k < length points → IsSpotOf points s
    spot_of k s e f l = record { in_list = omega (arith, e); place = λ d. ap (λ (n : ℕ). slice_index_or points n d) e ∙ f d l }

    found : (i : ℕ) {s : Spot} → Contains new s → s.index ≡ i → Any (λ t. t.index ≡ i) new
    found i {s} (k, l, e) f = (k, s, l, e, f)
