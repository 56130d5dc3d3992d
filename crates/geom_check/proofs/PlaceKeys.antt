-- Numbers that rise strictly are different, and points whose numbers are different have different places.
use Rattle.std.proofs.Common.{◌≡◌, ◌≢◌, ℕ, ◌-◌, ◌<◌, ◌≤◌, List, length, map, slice_index_or, AllPairs, sym, ◌∙◌, ap, arith}
use lib.IntN.{ℤ, pos}
use Rattle.std.specs.Prelude.{unsigned_abs}
use Rattle.std.specs.List.Sorted.{IsPermutation, IsNonDecreasingBy}
use Rattle.std.proofs.lemmas.List.{get_or-map, length-map}
use Rattle.std.proofs.lemmas.List.Sorted.{IsPermutation-sym}
use Rattle.grid_geom.specs.declared.Point.{Point}
use Rattle.geom_check.specs.Accepted.{ArePlacesDifferent}
use Rattle.geom_check.specs.Places.{key_of}
use Rattle.geom_check.proofs.Reordered.{AllPairs-reordered}

-- how far a coordinate is from the end of the grid
pub abs_is : (n : ℕ) (z : ℤ) → pos n ≡ z → n ≡ unsigned_abs z
abs_is n z e = ap unsigned_abs e

-- each number below place i is less than the next
abbrev pub AreRisingTo : ℕ → List ℕ → Type 0
AreRisingTo i keys = (m : ℕ) (d : ℕ) → 1 ≤ m → m < i → slice_index_or keys (m - 1) d ≢ slice_index_or keys m d

pub all_different : (keys : List ℕ) → IsNonDecreasingBy (λ n. n) keys → AreRisingTo (length keys) keys → AllPairs (λ m n. m ≢ n) keys
all_different keys sorted rising i j d h k e = between (slice_index_or keys i d) (slice_index_or keys (j - 1) d) (slice_index_or keys j d) (sorted i (j - 1) d (omega arith) (omega arith)) (sorted (j - 1) j d (omega arith) k) e (rising j d (omega arith) k)
  where
    between : (a b c : ℕ) → a ≤ b → b ≤ c → a ≡ c → b ≢ c → ⊥
    between a b c h j e n = n (omega arith)

pub places_by_keys : (points : List Point) (sorted : List ℕ) → IsPermutation (map key_of points) sorted → AllPairs (λ m n. m ≢ n) sorted → ArePlacesDifferent points
places_by_keys points sorted p all i j t = AllPairs-reordered (λ m n. m ≢ n) sorted (map key_of points) (λ m n h e. h (sym e)) (IsPermutation-sym (map key_of points) sorted p) all i j 0 t.ordered (omega (arith, length-map points key_of, t.in_list))
    (at i (omega (arith, t.ordered, t.in_list)) ∙ ap key_of (t.together some) ∙ sym (at j t.in_list))
  where
    some : Point
    some = record { x = pos 0; y = pos 0 }

    at : (k : ℕ) → k < length points → slice_index_or (map key_of points) k 0 ≡ key_of (slice_index_or points k some)
    at k h = get_or-map key_of points k some 0 h
