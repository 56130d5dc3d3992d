-- Levels: the heights at which edges end, counted from the bottom of the grid; a place lies below them, in a strip of two successive ones, or above.
use Rattle.std.proofs.Common.{◌≡◌, ℕ, zero, suc, ◌+◌, ◌-◌, ◌<◌, ◌≤◌, Bool, true, false, List, [], ◌∷◌, length, slice_index, slice_index_or, All, sum_by, sym, ◌∙◌, ap, subst, refl, arith, ◌⊎◌, inl, inr}
use lib.IntN.{ℤ, pos, ◌+ℤ◌, ◌-ℤ◌, ◌*ℤ◌}
use lib.Signed.{◌<ℤ◌, ◌≤ℤ◌, lt_z, le_z}
use Rattle.std.proofs.lemmas.Int.{ints}
use Rattle.std.proofs.lemmas.Bool.{cases_lt}
use Rattle.std.proofs.lemmas.List.Sums.{sum_by-cons}
use Rattle.std.proofs.lemmas.List.Kept.{AllPairs-from_increasing}
use Rattle.std.specs.List.Sorted.{IsStrictlyIncreasing}
use Rattle.grid_geom.specs.declared.RatPoint.{RatPoint}
use Rattle.grid_geom.specs.Winding.{and}
use Rattle.grid_geom.proofs.Signs.{le_mul}
use Rattle.geom_check.specs.declared.risers.Riser.{Riser}
use Rattle.geom_check.specs.Accepted.{IsZeroOrOne}
use Rattle.geom_check.specs.Risers.{covers, is_left, is_beside, one_if, winding_of}
use Rattle.geom_check.specs.RiserOrder.{IsClear, IsSound, IsSoundAll, HasLevel, HasLevels, height_of}
use Rattle.grid_geom.specs.declared.TheConstants.{GRID}

-- ---- levels rise
pub rises_to : (levels : List ℕ) (i j : ℕ) → IsStrictlyIncreasing levels → i ≤ j → j < length levels → slice_index levels i ≤ slice_index levels j
rises_to levels i j up h k = elim (cases_lt i j) [
  | inl l ↦ let p : slice_index levels i < slice_index levels j = AllPairs-from_increasing levels up i j 0 l k in omega arith
  | inr l ↦ let e : i ≡ j = omega arith in subst (λ (n : ℕ). slice_index levels i ≤ slice_index levels n) e (omega arith)
]

pub clear_end : (levels : List ℕ) (i : ℕ) (y : ℤ) → IsStrictlyIncreasing levels → 1 ≤ i → i < length levels → HasLevel levels y → (y ≤ℤ height_of levels (i - 1)) ⊎ (height_of levels i ≤ℤ y)
clear_end levels i y up h k l = elim (cases_lt l.index i) [
  | inl m ↦ inl (below (slice_index levels l.index) (slice_index levels (i - 1)) l.level (rises_to levels l.index (i - 1) up (omega arith) (omega arith)))
  | inr m ↦ inr (above (slice_index levels l.index) (slice_index levels i) l.level (rises_to levels i l.index up m l.in_list))
]
  where
    below : (m n : ℕ) → pos m ≡ y +ℤ GRID → m ≤ n → y ≤ℤ (pos n -ℤ GRID)
    below m n e h = omega (arith, ints)

    above : (m n : ℕ) → pos m ≡ y +ℤ GRID → n ≤ m → (pos n -ℤ GRID) ≤ℤ y
    above m n e h = omega (arith, ints)

-- no riser ends inside the strip between two successive levels
pub clear_risers : (levels : List ℕ) (i : ℕ) (rs : List Riser) → IsStrictlyIncreasing levels → 1 ≤ i → i < length levels → All (HasLevels levels) rs → All (IsClear (height_of levels (i - 1)) (height_of levels i)) rs
clear_risers levels i rs up h k all j d m = record { a_clear = clear_end levels i (slice_index_or rs j d).a.y up h k (all j d m).a; b_clear = clear_end levels i (slice_index_or rs j d).b.y up h k (all j d m).b }

pub strip_ordered : (levels : List ℕ) (i : ℕ) → IsStrictlyIncreasing levels → 1 ≤ i → i < length levels → height_of levels (i - 1) <ℤ height_of levels i
strip_ordered levels i up h k = lower (slice_index levels (i - 1)) (slice_index levels i) (AllPairs-from_increasing levels up (i - 1) i 0 (omega arith) k)
  where
    lower : (m n : ℕ) → m < n → (pos m -ℤ GRID) <ℤ (pos n -ℤ GRID)
    lower m n h = omega (arith, ints)

-- ---- where a place lies
first_false : (f : ℕ → Bool) (n : ℕ) → (j : ℕ) × (j ≤ n) × ((i : ℕ) → i < j → f i ≡ true) × (j < n → f j ≡ false)
first_false f zero = (0, omega arith, λ i h. absurd (omega arith), λ h. absurd (omega arith))
first_false f (suc n) = next (first_false f n)
  where
    next : ((j : ℕ) × (j ≤ n) × ((i : ℕ) → i < j → f i ≡ true) × (j < n → f j ≡ false)) → (j : ℕ) × (j ≤ suc n) × ((i : ℕ) → i < j → f i ≡ true) × (j < suc n → f j ≡ false)
    next r = elim (cases_lt r.0 n) [
      | inl h ↦ (r.0, omega (arith, r.1), r.2, λ g. r.3 h)
      | inr h ↦ last r h (f n) refl
    ]
      where
        last : (r : (j : ℕ) × (j ≤ n) × ((i : ℕ) → i < j → f i ≡ true) × (j < n → f j ≡ false)) → n ≤ r.0 → (b : Bool) → f n ≡ b → (j : ℕ) × (j ≤ suc n) × ((i : ℕ) → i < j → f i ≡ true) × (j < suc n → f j ≡ false)
        last r h true e = (suc n, omega arith, λ i g. elim (cases_lt i n) [ inl k ↦ r.2 i (omega arith) | inr k ↦ let m : i ≡ n = omega arith in subst (λ (z : ℕ). f z ≡ true) (sym m) e ], λ g. absurd (omega arith))
        last r h false e = (n, omega arith, λ i g. r.2 i (omega arith), λ g. e)

-- a place is not lower than a level
abbrev reaches : List ℕ → RatPoint → ℕ → Bool
reaches levels q i = le_z (height_of levels i *ℤ q.k) q.y

test_true : (m n : ℤ) → le_z m n ≡ true → m ≤ℤ n
test_true m n e = grind (arith, ints)

test_false : (m n : ℤ) → le_z m n ≡ false → n <ℤ m
test_false m n e = grind (arith, ints)

pub height_is : (levels : List ℕ) (y : ℤ) (l : HasLevel levels y) → height_of levels l.index ≡ y
height_is levels y l = same (slice_index levels l.index) l.level
  where
    same : (n : ℕ) → pos n ≡ y +ℤ GRID → pos n -ℤ GRID ≡ y
    same n e = omega (arith, ints)

-- nothing covers a place below all levels, or not below the last of them
none_beside : (b c : Bool) → b ≡ false → one_if (and b c) ≡ 0
none_beside b c e = ap (λ (x : Bool). one_if (and x c)) e

none_covers : (b c d : Bool) → b ≡ false → one_if (and (and b c) d) ≡ 0
none_covers b c d e = ap (λ (x : Bool). one_if (and (and x c) d)) e

no_sum : (q : RatPoint) (side : Riser → Bool) (rs : List Riser) → ((i : ℕ) (d : Riser) → i < length rs → is_beside q (slice_index_or rs i d) ≡ false) → sum_by (λ r. one_if (and (covers q r) (side r))) rs ≡ 0
no_sum q side [] none = refl
no_sum q side (r ∷ rs) none = sum_by-cons (λ r. one_if (and (covers q r) (side r))) r rs ∙ both _ _ (none_covers (is_beside q r) (is_left q r) (side r) (none 0 r (omega arith))) (no_sum q side rs (λ i d h. none (suc i) d (omega arith)))
  where
    both : (m n : ℕ) → m ≡ 0 → n ≡ 0 → m + n ≡ 0
    both m n e f = omega arith

no_winding : (chosen : ℕ → Bool) (q : RatPoint) (rs : List Riser) → ((i : ℕ) (d : Riser) → i < length rs → is_beside q (slice_index_or rs i d) ≡ false) → IsZeroOrOne (winding_of chosen q rs)
no_winding chosen q rs none = inl (zero_less _ _ (no_sum q (λ r. chosen r.west) rs none) (no_sum q (λ r. chosen r.east) rs none))
  where
    zero_less : (m n : ℕ) → m ≡ 0 → n ≡ 0 → pos m -ℤ pos n ≡ pos 0
    zero_less m n e f = omega (arith, ints)

above_all : (m n o : ℤ) (b : Bool) → le_z n o ≡ true → n ≡ m → and b (lt_z o m) ≡ false
above_all m n o true e f = grind (arith, ints)
above_all m n o false e f = refl

below_all : (m n o : ℤ) (b : Bool) → o <ℤ n → n ≤ℤ m → and (le_z m o) b ≡ false
below_all m n o b h j = grind (arith, ints)

-- where all strips are sound, all places are
pub sound_all : (levels : List ℕ) (chosen : ℕ → Bool) (rs : List Riser) → IsStrictlyIncreasing levels → All (HasLevels levels) rs → ((k : ℕ) → 1 ≤ k → k < length levels → IsSound (height_of levels (k - 1)) (height_of levels k) chosen rs) → IsSoundAll chosen rs
sound_all levels chosen rs up has sound q rational off = by_place (first_false (reaches levels q) (length levels))
  where
    scaled : (m n : ℕ) → m ≤ n → (pos m -ℤ GRID) ≤ℤ (pos n -ℤ GRID)
    scaled m n h = omega (arith, ints)

    lowest : (j : ℕ) → j ≡ 0 → (j < length levels → reaches levels q j ≡ false) → (i : ℕ) (d : Riser) → i < length rs → is_beside q (slice_index_or rs i d) ≡ false
    lowest j e f i d h =
        let l : HasLevel levels (slice_index_or rs i d).a.y = (has i d h).a in
        let g : q.y <ℤ (height_of levels j *ℤ q.k) = test_false (height_of levels j *ℤ q.k) q.y (f (omega (arith, l.in_list))) in
        let m : (height_of levels j *ℤ q.k) ≤ℤ (height_of levels l.index *ℤ q.k) = le_mul (height_of levels j) (height_of levels l.index) q.k rational.positive (scaled (slice_index levels j) (slice_index levels l.index) (rises_to levels j l.index up (omega arith) l.in_list)) in
        below_all ((slice_index_or rs i d).a.y *ℤ q.k) (height_of levels j *ℤ q.k) q.y (lt_z q.y ((slice_index_or rs i d).b.y *ℤ q.k)) g (subst (λ (z : ℤ). (height_of levels j *ℤ q.k) ≤ℤ (z *ℤ q.k)) (height_is levels (slice_index_or rs i d).a.y l) m)

    highest : (j : ℕ) → length levels ≤ j → ((i : ℕ) → i < j → reaches levels q i ≡ true) → (i : ℕ) (d : Riser) → i < length rs → is_beside q (slice_index_or rs i d) ≡ false
    highest j e f i d h =
        let l : HasLevel levels (slice_index_or rs i d).b.y = (has i d h).b in
        above_all ((slice_index_or rs i d).b.y *ℤ q.k) (height_of levels l.index *ℤ q.k) q.y (le_z ((slice_index_or rs i d).a.y *ℤ q.k) q.y) (f l.index (omega (arith, l.in_list))) (ap (λ (z : ℤ). z *ℤ q.k) (height_is levels (slice_index_or rs i d).b.y l))

    by_place : ((j : ℕ) × (j ≤ length levels) × ((i : ℕ) → i < j → reaches levels q i ≡ true) × (j < length levels → reaches levels q j ≡ false)) → IsZeroOrOne (winding_of chosen q rs)
    by_place p = elim (cases_lt 0 p.0) [
      | inr h ↦ no_winding chosen q rs (lowest p.0 (omega arith) p.3)
      | inl h ↦ elim (cases_lt p.0 (length levels)) [
        | inr k ↦ no_winding chosen q rs (highest p.0 k p.2)
        | inl k ↦ sound p.0 (omega arith) k q (record {
          rational = rational.positive;
          from_low = test_true (height_of levels (p.0 - 1) *ℤ q.k) q.y (p.2 (p.0 - 1) (omega arith));
          below_high = test_false (height_of levels p.0 *ℤ q.k) q.y (p.3 k);
        }) off
      ]
    ]

-- one more strip that is sound
pub next_sound : (levels : List ℕ) (chosen : ℕ → Bool) (rs : List Riser) (i : ℕ) (low high : ℤ) → low ≡ height_of levels (i - 1) → high ≡ height_of levels i → IsSound low high chosen rs →
    ((k : ℕ) → 1 ≤ k → k < i → IsSound (height_of levels (k - 1)) (height_of levels k) chosen rs) → (k : ℕ) → 1 ≤ k → k < i + 1 → IsSound (height_of levels (k - 1)) (height_of levels k) chosen rs
next_sound levels chosen rs i low high e f here below k h j = elim (cases_lt k i) [
  | inl l ↦ below k h l
  | inr l ↦ let g : i ≡ k = omega arith in subst (λ (n : ℕ). IsSound (height_of levels (n - 1)) (height_of levels n) chosen rs) g (subst (λ (z : ℤ). IsSound (height_of levels (i - 1)) z chosen rs) f (subst (λ (z : ℤ). IsSound z high chosen rs) e here))
]
