-- The generated geometry is readable, and it is accepted.
use Rattle.std.proofs.Common.{◌≡◌, ◌≢◌, ◌⊎◌, ℕ, ◌+◌, ◌-◌, ◌*◌, ◌/◌, ◌%◌, ◌<◌, ◌≤◌, ◌==◌, Bool, true, false, List, ◌++◌, length, map, All, Option, slice_index_or, inl, inr, sym, ◌∙◌, ap, subst, refl, arith}
use Rattle.std.specs.Prelude.{if◌then◌else◌, IsSome, Any}
use Rattle.std.specs.List.{range_with_len}
use lib.IntN.{ℤ, pos, ◌*ℤ◌}
use lib.Signed.{◌<ℤ◌, ◌≤ℤ◌}
use Rattle.std.proofs.lemmas.Int.{ints}
use Rattle.std.proofs.Math.Nat.{lt_of_mul-lt-mul_right, mul-le-mul_right}
use Rattle.std.proofs.lemmas.List.{length-append, get_or_append_left}
use Rattle.std.proofs.lemmas.List.FromFn.{length-map-range_with_len, get_or-map-range_with_len}
use Rattle.std.proofs.lemmas.List.Elements.{All-append, All-nil, All-from_get_or}
use Rattle.grid_geom.specs.declared.RatPoint.{RatPoint}
use Rattle.grid_geom.specs.Plane.{IsRational}
use Rattle.grid_geom.specs.Winding.{wind}
use Rattle.grid_geom.specs.Closed.{IsClosed}
use Rattle.grid_geom.proofs.Signs.{lt_cancel}
use Rattle.in2d_reader.specs.declared.geometry.SegmentRow.{SegmentRow}
use Rattle.geom_check.specs.declared.kinds.Segment.{Segment}
use Rattle.geom_check.specs.Placed.{row_in, row_of, points_of, segments_of, IsReadable, IsReadableNumber, IsReadablePoint, IsReadableSegment, IsReadableMaterial}
use Rattle.geom_check.specs.Boundary.{boundary}
use Rattle.geom_check.specs.Accepted.{HasDifferentDomains, HasTwoEnds, IsPlanar, NamesDomain, IsAccepted}
use Rattle.geom_check.specs.declared.limits.TheConstants.{MOST_DOMAINS}
use Rattle.sample.specs.Squares.{whole, point_number, square_number, above, below, west, east, point_row, across, up, in_rows, squares}
use Rattle.sample.proofs.Tables.{count_in_rows, item_in_rows, column_below, row_below, next_row, each_in_rows}
use Rattle.sample.proofs.Coordinates.{unit_at, unit_positive, rows_fit_coarsest, shift_is}
use Rattle.sample.proofs.OnGrid.{points, row_found, row_is, across_at, up_at, all_segments}
use Rattle.sample.proofs.LatticeEdges.{step_up}
use Rattle.sample.proofs.Apart.{grid, all_across, all_up, segments, places_different, edges_apart}
use Rattle.sample.proofs.Borders.{positive, less, unlike, row_before, square_or_none}
use Rattle.sample.proofs.Counted.{IsInHalfOpen, box_sides, box_winding}

-- ---- segments by themselves
each_of : {A : Type 0} (P : A → Type 0) (f : ℕ → A) (m : ℕ) → ((k : ℕ) → k < m → P (f k)) → All P (map f (range_with_len 0 m))
each_of P f m all = All-from_get_or P (map f (range_with_len 0 m)) (f 0) (λ k h. let b : k < m = omega (arith, length-map-range_with_len f 0 m) in subst P (sym (get_or-map-range_with_len f 0 m k k (f 0) b (omega arith))) (all k b))

like : (m n : ℕ) → (m == n) ≡ true → m ≡ n
like m n e = grind arith

-- two choices of 0 or a number above it differ, where they are not both 0 and the numbers differ
choices_differ : (b c : Bool) (m l : ℕ) → 0 < m → 0 < l → (b ≡ true → c ≡ true → ⊥) → (b ≡ false → c ≡ false → m ≢ l) → (if b then 0 else m) ≢ (if c then 0 else l)
choices_differ true true m l h j both neither e = both refl refl
choices_differ true false m l h j both neither e = omega (arith, e)
choices_differ false true m l h j both neither e = omega (arith, e)
choices_differ false false m l h j both neither e = neither refl refl e

across_sides : (n x y : ℕ) → 1 ≤ n → above n x y ≢ below n x y
across_sides n x y h = choices_differ (y == n) (y == 0) (square_number n x y) (square_number n x (y - 1)) (omega arith) (omega arith)
    (λ a b. omega (arith, like y n a, like y 0 b))
    (λ a b e. omega (arith, e, row_before n y (positive y (unlike y 0 b))))

up_sides : (n x y : ℕ) → 1 ≤ n → west n x y ≢ east n x y
up_sides n x y h = choices_differ (x == 0) (x == n) (square_number n (x - 1) y) (square_number n x y) (omega arith) (omega arith)
    (λ a b. omega (arith, like x 0 a, like x n b))
    (λ a b e. omega (arith, e, positive x (unlike x 0 a)))

all_sides : (s n : ℕ) → 1 ≤ n → All HasDifferentDomains (segments s n)
all_sides s n h = All-append HasDifferentDomains (all_across s n) (all_up s n)
    (each_of HasDifferentDomains (across_at s n) (n * (n + 1)) (λ k j. across_sides n (k % n) (k / n) h))
    (each_of HasDifferentDomains (up_at s n) ((n + 1) * n) (λ k j. up_sides n (k % (n + 1)) (k / (n + 1)) h))

two_rows : (n i j x y : ℕ) → i ≤ n → j ≤ n → x ≤ n → y ≤ n → point_number n i j ≢ point_number n x y → row_of (points n) (point_number n i j) ≢ row_of (points n) (point_number n x y)
two_rows n i j x y h k l m differ e = differ (sym (row_is n i j h k) ∙ e ∙ row_is n x y l m)

all_ends : (s n : ℕ) → 1 ≤ n → All HasTwoEnds (segments s n)
all_ends s n h = All-append HasTwoEnds (all_across s n) (all_up s n)
    (each_of HasTwoEnds (across_at s n) (n * (n + 1)) (λ k j.
    let c = column_below n k h in let r = row_below n (n + 1) k h j in
    two_rows n (k % n) (k / n) (k % n + 1) (k / n) (omega arith) (omega arith) (omega arith) (omega arith) (λ e. omega (arith, e))))
    (each_of HasTwoEnds (up_at s n) ((n + 1) * n) (λ k j.
    let c = column_below (n + 1) k (omega arith) in let r = row_below (n + 1) n k (omega arith) j in
    two_rows n (k % (n + 1)) (k / (n + 1)) (k % (n + 1)) (k / (n + 1) + 1) (omega arith) (omega arith) (omega arith) (omega arith) (λ e. omega (arith, e))))

-- ---- boundaries and winding numbers
box_closed : (a b c d : ℤ) → IsClosed (box_sides a b c d)
box_closed a b c d = record { balanced = λ w. omega arith }

all_closed : (s n domain : ℕ) → 1 ≤ n → 0 < domain → IsClosed (boundary (grid s n) domain (segments s n))
all_closed s n domain h k = elim (square_or_none s n domain h k) [
  | inl e ↦ subst IsClosed (sym e) (record { balanced = λ w. refl })
  | inr square ↦ subst IsClosed (sym square.sides) (box_closed (pos (square.i * unit_at s)) (pos ((square.i + 1) * unit_at s)) (pos (square.j * unit_at s)) (pos ((square.j + 1) * unit_at s)))
]

-- the point is in the half-open square of the domain
pub record IsInSquare (s n domain : ℕ) (q : RatPoint) : Type 0 where
  pub i : ℕ
  pub j : ℕ
  pub number : domain ≡ square_number n i j
  pub inside : IsInHalfOpen q (pos (i * unit_at s)) (pos ((i + 1) * unit_at s)) (pos (j * unit_at s)) (pos ((j + 1) * unit_at s))

wound : (s n domain : ℕ) (q : RatPoint) → 1 ≤ n → 0 < domain → IsRational q → (wind q (boundary (grid s n) domain (segments s n)) ≡ pos 0) ⊎ ((wind q (boundary (grid s n) domain (segments s n)) ≡ pos 1) × IsInSquare s n domain q)
wound s n domain q h k rational = elim (square_or_none s n domain h k) [
  | inl e ↦ inl (ap (wind q) e)
  | inr square ↦ elim (box_winding q (pos (square.i * unit_at s)) (pos ((square.i + 1) * unit_at s)) (pos (square.j * unit_at s)) (pos ((square.j + 1) * unit_at s)) rational (step_up (unit_at s) square.i (unit_positive s)) (step_up (unit_at s) square.j (unit_positive s))) [
    | inl e ↦ inl (ap (wind q) square.sides ∙ e)
    | inr w ↦ inr (ap (wind q) square.sides ∙ w.0, record { i = square.i; j = square.j; number = square.number; inside = w.1 })
  ]
]

in_square : (s n domain : ℕ) (q : RatPoint) → 1 ≤ n → 0 < domain → IsRational q → wind q (boundary (grid s n) domain (segments s n)) ≡ pos 1 → IsInSquare s n domain q
in_square s n domain q h k rational e = elim (wound s n domain q h k rational) [ inl z ↦ absurd (omega (arith, ints, e, z)) | inr w ↦ w.1 ]

-- a number of a lattice that is at most z, which is below another with its successor
not_beyond : (u i x : ℕ) (z k : ℤ) → pos 0 <ℤ k → (pos (i * u) *ℤ k) ≤ℤ z → z <ℤ (pos ((x + 1) * u) *ℤ k) → i ≤ x
not_beyond u i x z k h a b =
    let c : pos (i * u) <ℤ pos ((x + 1) * u) = lt_cancel (pos (i * u)) (pos ((x + 1) * u)) k h (omega (arith, ints, a, b)) in
    let d : i < x + 1 = lt_of_mul-lt-mul_right u (omega (arith, ints, c)) in
    omega (arith, d)

one_square : (s n c d : ℕ) (q : RatPoint) → IsRational q → IsInSquare s n c q → IsInSquare s n d q → c ≡ d
one_square s n c d q rational a b =
    let u : ℕ = unit_at s in
    let first : a.i ≤ b.i = not_beyond u a.i b.i q.x q.k rational.positive a.inside.right_of b.inside.left_of in
    let second : b.i ≤ a.i = not_beyond u b.i a.i q.x q.k rational.positive b.inside.right_of a.inside.left_of in
    let third : a.j ≤ b.j = not_beyond u a.j b.j q.y q.k rational.positive a.inside.above b.inside.below in
    let fourth : b.j ≤ a.j = not_beyond u b.j a.j q.y q.k rational.positive b.inside.above a.inside.below in
    let rows : a.j * n ≡ b.j * n = ap (λ (z : ℕ). z * n) (omega (arith, third, fourth)) in
    omega (arith, a.number, b.number, first, second, rows)

pub planar : (s n : ℕ) → 1 ≤ n → IsPlanar (grid s n) (segments s n)
planar s n h = record {
  places = places_different s n;
  sides = all_sides s n h;
  ends = all_ends s n h;
  apart = edges_apart s n h;
  closed = λ domain k. all_closed s n domain h k;
  winding = λ domain k q rational off. elim (wound s n domain q h k rational) [ inl e ↦ inl e | inr w ↦ inr w.0 ];
  separate = λ q rational off o.
      let e = one_square s n o.c o.d q rational (in_square s n o.c q h o.positive rational o.in_c) (in_square s n o.d q h (omega (arith, o.positive, o.ordered)) rational o.in_d) in
      omega (arith, e, o.ordered);
}

-- ---- the file
first_named : (n : ℕ) → 1 ≤ n → NamesDomain (across n (0 % n) (0 / n))
first_named n h = inl (least (0 / n == n) (square_number n (0 % n) (0 / n)) (λ e. omega (arith, like (0 / n) n e, row_below n n 0 h (omega (arith, mul-le-mul_right n h)))) (omega arith))
  where
    least : (b : Bool) (m : ℕ) → (b ≡ true → ⊥) → 0 < m → 0 < (if b then 0 else m)
    least true m h j = absurd (h refl)
    least false m h j = j

names_domain : (n : ℕ) → 1 ≤ n → Any NamesDomain (in_rows (across n) n (n + 1) ++ in_rows (up n) (n + 1) n)
names_domain n h =
    let first : SegmentRow = across n (0 % n) (0 / n) in
    let some : 0 < n * (n + 1) = omega (arith, mul-le-mul_right (n + 1) h) in
    let count : length (in_rows (across n) n (n + 1)) ≡ n * (n + 1) = count_in_rows (across n) n (n + 1) in
    let e : slice_index_or (in_rows (across n) n (n + 1) ++ in_rows (up n) (n + 1) n) 0 first ≡ first = get_or_append_left (in_rows (across n) n (n + 1)) (in_rows (up n) (n + 1) n) first 0 (omega (arith, count, some)) ∙ item_in_rows (across n) n (n + 1) 0 first some in
    (0, first, omega (arith, length-append (in_rows (across n) n (n + 1)) (in_rows (up n) (n + 1) n), count, some), e, first_named n h)

pub accepted : (n : ℕ) → 1 ≤ n → n ≤ 8 → IsAccepted (squares n)
unfolding squares
accepted n h k = record {
  domain = names_domain n h;
  fits = rows_fit_coarsest n k;
  planar = λ shift is_shift.
      let found = shift_is n shift k is_shift in
      subst (λ (z : ℤ). IsPlanar (points_of z (points n)) (segments_of z (squares n))) (sym found.1)
      (subst (λ (ss : List Segment). IsPlanar (grid found.0 n) ss) (sym (all_segments found.0 n)) (planar found.0 n h));
}

-- ---- numbers within a reader's ranges
whole_readable : (i : ℕ) → i ≤ 8 → IsReadableNumber (whole i)
whole_readable i h = record { digits = omega arith; scale_least = omega (arith, ints); scale_greatest = omega (arith, ints) }

number_known : (n i j : ℕ) → i ≤ n → j ≤ n → IsSome (row_in (points n) (point_number n i j))
number_known n i j h k = subst (λ (o : Option ℕ). IsSome o) (sym (row_found n i j h k)) refl

at_most : (b : Bool) (m most : ℕ) → (b ≡ false → m ≤ most) → (if b then 0 else m) ≤ most
at_most true m most h = omega arith
at_most false m most h = h refl

few_squares : (n i j : ℕ) → n ≤ 8 → i < n → j < n → square_number n i j ≤ MOST_DOMAINS
few_squares n i j h k l = omega (arith, next_row n j n l, mul-le-mul_right n h)

across_readable : (n i j : ℕ) → n ≤ 8 → i < n → j < n + 1 → IsReadableSegment (points n) (across n i j)
across_readable n i j h k l = record {
  p_known = number_known n i j (omega arith) (omega arith);
  q_known = number_known n (i + 1) j (omega arith) (omega arith);
  bc = tt;
  maxh = tt;
  left = at_most (j == n) (square_number n i j) MOST_DOMAINS (λ e. few_squares n i j h k (less j n l (unlike j n e)));
  right = at_most (j == 0) (square_number n i (j - 1)) MOST_DOMAINS (λ e. few_squares n i (j - 1) h k (omega (arith, positive j (unlike j 0 e))));
}

up_readable : (n i j : ℕ) → n ≤ 8 → i < n + 1 → j < n → IsReadableSegment (points n) (up n i j)
up_readable n i j h k l = record {
  p_known = number_known n i j (omega arith) (omega arith);
  q_known = number_known n i (j + 1) (omega arith) (omega arith);
  bc = tt;
  maxh = tt;
  left = at_most (i == 0) (square_number n (i - 1) j) MOST_DOMAINS (λ e. few_squares n (i - 1) j h (omega (arith, positive i (unlike i 0 e))) l);
  right = at_most (i == n) (square_number n i j) MOST_DOMAINS (λ e. few_squares n i j h (less i n k (unlike i n e)) l);
}

pub readable : (n : ℕ) → 1 ≤ n → n ≤ 8 → IsReadable (squares n)
unfolding squares
readable n h k = record {
  few_points = omega (arith, count_in_rows (point_row n) (n + 1) (n + 1), small);
  few_segments = omega (arith, length-append (in_rows (across n) n (n + 1)) (in_rows (up n) (n + 1) n), count_in_rows (across n) n (n + 1), count_in_rows (up n) (n + 1) n, small);
  points = each_in_rows IsReadablePoint (point_row n) (n + 1) (n + 1) (point_row 0 0 0) (omega arith) (λ i j a b. record { x = whole_readable i (omega arith); y = whole_readable j (omega arith); maxh = tt });
  segments = All-append (IsReadableSegment (points n)) (in_rows (across n) n (n + 1)) (in_rows (up n) (n + 1) n)
      (each_in_rows (IsReadableSegment (points n)) (across n) n (n + 1) (across n 0 0) h (λ i j a b. across_readable n i j k a b))
      (each_in_rows (IsReadableSegment (points n)) (up n) (n + 1) n (up n 0 0) (omega arith) (λ i j a b. up_readable n i j k a b));
  materials = All-nil IsReadableMaterial;
}
  where
    small : (n + 1) * (n + 1) ≤ 81
    small = omega (arith, mul-le-mul_right (n + 1) k)
