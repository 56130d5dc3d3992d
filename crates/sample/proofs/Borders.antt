-- The boundary of a domain of the squares: the four sides of its square, or nothing where no square has its number.
use Rattle.std.proofs.Common.{◌≡◌, ◌≢◌, ◌⊎◌, ℕ, ◌+◌, ◌-◌, ◌*◌, ◌/◌, ◌%◌, ◌<◌, ◌≤◌, ◌==◌, Bool, true, false, List, [], ◌∷◌, ◌++◌, inl, inr, ◌∙◌, ap, refl, arith}
use Rattle.std.specs.Prelude.{if◌then◌else◌}
use lib.IntN.{pos}
use Rattle.std.proofs.lemmas.Bool.{cases_lt}
use Rattle.grid_geom.specs.declared.Edge.{Edge}
use Rattle.geom_check.specs.Boundary.{boundary, back}
use Rattle.sample.specs.Squares.{square_number, above, below, west, east}
use Rattle.sample.proofs.Tables.{place_number, column_below, row_below, one_place, next_row}
use Rattle.sample.proofs.Coordinates.{unit_at}
use Rattle.sample.proofs.OnGrid.{place_of_number, across_at, up_at, edge_across, edge_up, across_edge, up_edge}
use Rattle.sample.proofs.Apart.{grid, all_across, all_up, segments}
use Rattle.sample.proofs.Picked.{IsBeside, boundary_joined, adds_left, adds_right, adds_none, two_add}
use Rattle.sample.proofs.Counted.{box_sides}

-- ---- which segment has a square on a side
-- a number above 0 where there is a choice of 0
chosen : (b : Bool) (m d : ℕ) → 0 < d → (if b then 0 else m) ≡ d → (b ≡ false) × (m ≡ d)
chosen true m d h e = absurd (omega (arith, e))
chosen false m d h e = (refl, e)

not_chosen : (b : Bool) (m : ℕ) → b ≡ false → (if b then 0 else m) ≡ m
not_chosen true m e = cc
not_chosen false m e = refl

pub unlike : (m n : ℕ) → (m == n) ≡ false → m ≢ n
unlike m n e f = grind arith

differ : (m n : ℕ) → m ≢ n → (m == n) ≡ false
differ m n e = grind arith

pub positive : (n : ℕ) → n ≢ 0 → 1 ≤ n
positive n e = grind arith

pub less : (m n : ℕ) → m < n + 1 → m ≢ n → m < n
less m n h e = grind arith

pub row_before : (n y : ℕ) → 1 ≤ y → (y - 1) * n + n ≡ y * n
row_before n y h = let e : (y - 1 + 1) * n ≡ y * n = ap (λ (z : ℕ). z * n) (omega arith) in omega (arith, e)

above_at : (n i j k : ℕ) → above n (k % n) (k / n) ≡ square_number n i j → k ≡ j * n + i
above_at n i j k e = omega (arith, place_number n k, (chosen (k / n == n) (square_number n (k % n) (k / n)) (square_number n i j) (omega arith) e).1)

below_at : (n i j k : ℕ) → below n (k % n) (k / n) ≡ square_number n i j → k ≡ j * n + i + n
below_at n i j k e =
    let c = chosen (k / n == 0) (square_number n (k % n) (k / n - 1)) (square_number n i j) (omega arith) e in
    let some : k / n ≢ 0 = unlike (k / n) 0 c.0 in
    let least : 1 ≤ k / n = positive (k / n) some in
    omega (arith, place_number n k, c.1, row_before n (k / n) least)

west_at : (n i j k : ℕ) → i < n → west n (k % (n + 1)) (k / (n + 1)) ≡ square_number n i j → k ≡ j * (n + 1) + i + 1
west_at n i j k h e =
    let x : ℕ = k % (n + 1) in
    let y : ℕ = k / (n + 1) in
    let c = chosen (x == 0) (square_number n (x - 1) y) (square_number n i j) (omega arith) e in
    let least : 1 ≤ x = positive x (unlike x 0 c.0) in
    let p = one_place n (x - 1) y i j (omega (arith, column_below (n + 1) k (omega arith))) h (omega (arith, c.1)) in
    let rows : y * (n + 1) ≡ j * (n + 1) = ap (λ (z : ℕ). z * (n + 1)) p.1 in
    omega (arith, place_number (n + 1) k, p.0, rows)

east_at : (n i j k : ℕ) → i < n → east n (k % (n + 1)) (k / (n + 1)) ≡ square_number n i j → k ≡ j * (n + 1) + i
east_at n i j k h e =
    let x : ℕ = k % (n + 1) in
    let y : ℕ = k / (n + 1) in
    let c = chosen (x == n) (square_number n x y) (square_number n i j) (omega arith) e in
    let p = one_place n x y i j (less x n (omega (arith, column_below (n + 1) k (omega arith))) (unlike x n c.0)) h (omega (arith, c.1)) in
    let rows : y * (n + 1) ≡ j * (n + 1) = ap (λ (z : ℕ). z * (n + 1)) p.1 in
    omega (arith, place_number (n + 1) k, p.0, rows)

-- ---- the sides of a square
-- where the place of number k is (x, y), a function of its place
by_place : (f : ℕ → ℕ → ℕ) (c x y k : ℕ) → x < c → k ≡ y * c + x → f (k % c) (k / c) ≡ f x y
by_place f c x y k h e = let p = place_of_number c x y k h e in ap (λ (z : ℕ). f z (k / c)) p.0 ∙ ap (f x) p.1

edge_by_place : (f : ℕ → ℕ → Edge) (c x y k : ℕ) → x < c → k ≡ y * c + x → f (k % c) (k / c) ≡ f x y
edge_by_place f c x y k h e = let p = place_of_number c x y k h e in ap (λ (z : ℕ). f z (k / c)) p.0 ∙ ap (f x) p.1

sides_across : (s n i j : ℕ) → i < n → j < n → boundary (grid s n) (square_number n i j) (all_across s n) ≡ edge_across (unit_at s) i j ∷ back (edge_across (unit_at s) i (j + 1)) ∷ []
sides_across s n i j h k =
    let d : ℕ = square_number n i j in
    let low : ℕ = j * n + i in
    let high : ℕ = low + n in
    let upper : high ≡ (j + 1) * n + i = omega arith in
    let fits : high < n * (n + 1) = omega (arith, next_row n (j + 1) (n + 1) (omega arith)) in
    let below_fits : low < n * (n + 1) = omega (arith, fits) in
    let low_left : (across_at s n low).left ≡ d = by_place (above n) n i j low h refl ∙ not_chosen (j == n) d (differ j n (λ e. omega (arith, e))) in
    let low_right : (across_at s n low).right ≢ d = λ e. omega (arith, below_at n i j low e) in
    let high_left : (across_at s n high).left ≢ d = λ e. omega (arith, above_at n i j high e) in
    let back_row : square_number n i (j + 1 - 1) ≡ d = ap (square_number n i) (omega arith) in
    let high_right : (across_at s n high).right ≡ d = by_place (below n) n i (j + 1) high h upper ∙ not_chosen (j + 1 == 0) (square_number n i (j + 1 - 1)) (differ (j + 1) 0 (λ e. omega (arith, e))) ∙ back_row in
    two_add (grid s n) d (across_at s n) (n * (n + 1)) low high (omega arith) fits (λ m a b c. record { left = λ e. b (above_at n i j m e); right = λ e. c (below_at n i j m e) })
    ∙ ap (λ (es : List Edge). es ++ boundary (grid s n) d (across_at s n high ∷ [])) (adds_left (grid s n) d (across_at s n low) low_left low_right ∙ ap (λ (e : Edge). e ∷ []) (across_edge s n low (omega arith) below_fits ∙ edge_by_place (edge_across (unit_at s)) n i j low h refl))
    ∙ ap (λ (es : List Edge). edge_across (unit_at s) i j ∷ es) (adds_right (grid s n) d (across_at s n high) high_left high_right ∙ ap (λ (e : Edge). back e ∷ []) (across_edge s n high (omega arith) fits ∙ edge_by_place (edge_across (unit_at s)) n i (j + 1) high h upper))

sides_up : (s n i j : ℕ) → i < n → j < n → boundary (grid s n) (square_number n i j) (all_up s n) ≡ back (edge_up (unit_at s) i j) ∷ edge_up (unit_at s) (i + 1) j ∷ []
sides_up s n i j h k =
    let d : ℕ = square_number n i j in
    let first : ℕ = j * (n + 1) + i in
    let last : ℕ = first + 1 in
    let after : last ≡ j * (n + 1) + (i + 1) = omega arith in
    let fits : last < (n + 1) * n = omega (arith, next_row (n + 1) j n k) in
    let first_fits : first < (n + 1) * n = omega (arith, fits) in
    let first_left : (up_at s n first).left ≢ d = λ e. omega (arith, west_at n i j first h e) in
    let first_right : (up_at s n first).right ≡ d = by_place (east n) (n + 1) i j first (omega arith) refl ∙ not_chosen (i == n) d (differ i n (λ e. omega (arith, e))) in
    let back_column : square_number n (i + 1 - 1) j ≡ d = ap (λ (z : ℕ). square_number n z j) (omega arith) in
    let last_left : (up_at s n last).left ≡ d = by_place (west n) (n + 1) (i + 1) j last (omega arith) after ∙ not_chosen (i + 1 == 0) (square_number n (i + 1 - 1) j) (differ (i + 1) 0 (λ e. omega (arith, e))) ∙ back_column in
    let last_right : (up_at s n last).right ≢ d = λ e. omega (arith, east_at n i j last h e) in
    two_add (grid s n) d (up_at s n) ((n + 1) * n) first last (omega arith) fits (λ m a b c. record { left = λ e. c (west_at n i j m h e); right = λ e. b (east_at n i j m h e) })
    ∙ ap (λ (es : List Edge). es ++ boundary (grid s n) d (up_at s n last ∷ [])) (adds_right (grid s n) d (up_at s n first) first_left first_right ∙ ap (λ (e : Edge). back e ∷ []) (up_edge s n first (omega arith) first_fits ∙ edge_by_place (edge_up (unit_at s)) (n + 1) i j first (omega arith) refl))
    ∙ ap (λ (es : List Edge). back (edge_up (unit_at s) i j) ∷ es) (adds_left (grid s n) d (up_at s n last) last_left last_right ∙ ap (λ (e : Edge). e ∷ []) (up_edge s n last (omega arith) fits ∙ edge_by_place (edge_up (unit_at s)) (n + 1) (i + 1) j last (omega arith) after))

-- ---- no square has the number
no_square : (n x y d : ℕ) → x < n → y < n → n * n < d → square_number n x y ≢ d
no_square n x y d h k l e = omega (arith, e, next_row n y n k)

across_beside : (s n d k : ℕ) → 1 ≤ n → n * n < d → k < n * (n + 1) → IsBeside d (across_at s n k)
across_beside s n d k h l j =
    let x : ℕ = k % n in
    let y : ℕ = k / n in
    let column : x < n = column_below n k h in
    let row : y < n + 1 = row_below n (n + 1) k h j in
    record {
      left = λ e. let c = chosen (y == n) (square_number n x y) d (omega arith) e in no_square n x y d column (less y n row (unlike y n c.0)) l c.1;
      right = λ e. let c = chosen (y == 0) (square_number n x (y - 1)) d (omega arith) e in no_square n x (y - 1) d column (omega (arith, positive y (unlike y 0 c.0))) l c.1;
    }

up_beside : (s n d k : ℕ) → 1 ≤ n → n * n < d → k < (n + 1) * n → IsBeside d (up_at s n k)
up_beside s n d k h l j =
    let x : ℕ = k % (n + 1) in
    let y : ℕ = k / (n + 1) in
    let column : x < n + 1 = column_below (n + 1) k (omega arith) in
    let row : y < n = row_below (n + 1) n k (omega arith) j in
    record {
      left = λ e. let c = chosen (x == 0) (square_number n (x - 1) y) d (omega arith) e in no_square n (x - 1) y d (omega (arith, positive x (unlike x 0 c.0))) row l c.1;
      right = λ e. let c = chosen (x == n) (square_number n x y) d (omega arith) e in no_square n x y d (less x n column (unlike x n c.0)) row l c.1;
    }

-- ---- the boundary of each domain
-- the domain is the square (i, j), and its boundary is the four sides of that
pub record IsSquare (s n domain : ℕ) : Type 0 where
  pub i : ℕ
  pub j : ℕ
  pub number : domain ≡ square_number n i j
  pub sides : boundary (grid s n) domain (segments s n) ≡ box_sides (pos (i * unit_at s)) (pos ((i + 1) * unit_at s)) (pos (j * unit_at s)) (pos ((j + 1) * unit_at s))

pub square_or_none : (s n domain : ℕ) → 1 ≤ n → 0 < domain → (boundary (grid s n) domain (segments s n) ≡ []) ⊎ IsSquare s n domain
square_or_none s n domain h k = elim (cases_lt (n * n) domain) [
  | inl l ↦ inl (
      boundary_joined (grid s n) domain (all_across s n) (all_up s n)
      ∙ ap (λ (es : List Edge). es ++ boundary (grid s n) domain (all_up s n)) (adds_none (grid s n) domain (across_at s n) 0 (n * (n + 1)) (λ m a b. across_beside s n domain m h l (omega arith)))
      ∙ adds_none (grid s n) domain (up_at s n) 0 ((n + 1) * n) (λ m a b. up_beside s n domain m h l (omega arith))
      )
  | inr l ↦
      let m : ℕ = domain - 1 in
      let i : ℕ = m % n in
      let j : ℕ = m / n in
      let column : i < n = column_below n m h in
      let row : j < n = row_below n n m h (omega arith) in
      let e : domain ≡ square_number n i j = omega (arith, place_number n m) in
      inr (record {
        i = i;
        j = j;
        number = e;
        sides = ap (λ (d : ℕ). boundary (grid s n) d (segments s n)) e
            ∙ boundary_joined (grid s n) (square_number n i j) (all_across s n) (all_up s n)
            ∙ ap (λ (es : List Edge). es ++ boundary (grid s n) (square_number n i j) (all_up s n)) (sides_across s n i j column row)
            ∙ ap (λ (es : List Edge). edge_across (unit_at s) i j ∷ back (edge_across (unit_at s) i (j + 1)) ∷ es) (sides_up s n i j column row);
      })
]
