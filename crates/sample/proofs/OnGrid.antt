-- The squares on the grid: which point a number names, and the segments across and upwards as edges of a lattice.
use Rattle.std.proofs.Common.{◌≡◌, ◌≢◌, ℕ, zero, suc, ◌+◌, ◌-◌, ◌*◌, ◌/◌, ◌%◌, ◌<◌, ◌≤◌, ◌==◌, Bool, true, false, cond, List, [], ◌∷◌, ◌++◌, length, map, slice_index_or, Option, Some, ◌∙◌, ap, refl, arith}
use Rattle.std.specs.Prelude.{unwrap_or}
use Rattle.std.specs.List.{position_from, range_with_len}
use lib.IntN.{ℤ, pos}
use Rattle.std.proofs.lemmas.List.{get_or-map, length-map}
use Rattle.grid_geom.specs.declared.Point.{Point}
use Rattle.grid_geom.specs.declared.Edge.{Edge}
use Rattle.in2d_reader.specs.declared.geometry.PointRow.{PointRow}
use Rattle.in2d_reader.specs.declared.geometry.SegmentRow.{SegmentRow}
use Rattle.geom_check.specs.declared.kinds.Segment.{Segment}
use Rattle.geom_check.specs.Placed.{row_in, row_of, place_of, points_of, segment_of, segments_from, segments_of}
use Rattle.geom_check.specs.Boundary.{point_at, edge_of}
use Rattle.wind_law.specs.Chains.{edge}
use Rattle.sample.specs.Squares.{point_number, point_row, across, up, in_rows, squares}
use Rattle.sample.proofs.Tables.{count_in_rows, item_in_rows, column_below, row_below, place_number, one_place, next_row}
use Rattle.sample.proofs.Coordinates.{lattice, unit_at, placed}

-- the points of the file
abbrev pub points : ℕ → List PointRow
points n = in_rows (point_row n) (n + 1) (n + 1)

-- ---- the row of a point number
same_number : (m n : ℕ) → m ≡ n → (m == n) ≡ true
same_number m n e = grind arith

other_number : (m n : ℕ) → m ≢ n → (m == n) ≡ false
other_number m n e = grind arith

-- among rows whose numbers count up, the first of a number
found : (f : ℕ → PointRow) (a m t b number : ℕ) → ((k : ℕ) → (f k).number ≡ k + 1) → t < m → number ≡ a + t + 1 → position_from (λ row. row.number == number) b (map f (range_with_len a m)) ≡ Some (b + t)
found f a zero t b number all h e = absurd (omega arith)
found f a (suc m) zero b number all h e =
    ap (λ (z : Bool). cond z (Some b) (position_from (λ row. row.number == number) (b + 1) (map f (range_with_len (a + 1) m)))) (same_number (f a).number number (omega (arith, all a))) ∙ ap (λ (z : ℕ). Some z) (omega arith)
found f a (suc m) (suc t) b number all h e =
    ap (λ (z : Bool). cond z (Some b) (position_from (λ row. row.number == number) (b + 1) (map f (range_with_len (a + 1) m)))) (other_number (f a).number number (λ same. omega (arith, all a, same))) ∙ found f (a + 1) m t (b + 1) number all (omega arith) (omega arith) ∙ ap (λ (z : ℕ). Some z) (omega arith)

place_below : (n i j : ℕ) → i ≤ n → j ≤ n → j * (n + 1) + i < (n + 1) * (n + 1)
place_below n i j h k = omega (arith, next_row (n + 1) j (n + 1) (omega arith))

pub row_found : (n i j : ℕ) → i ≤ n → j ≤ n → row_in (points n) (point_number n i j) ≡ Some (point_number n i j)
row_found n i j h k = found (λ z. point_row n (z % (n + 1)) (z / (n + 1))) 0 ((n + 1) * (n + 1)) (j * (n + 1) + i) 1 (point_number n i j) (λ z. omega (arith, place_number (n + 1) z)) (place_below n i j h k) (omega arith) ∙ ap (λ (z : ℕ). Some z) (omega arith)

pub row_is : (n i j : ℕ) → i ≤ n → j ≤ n → row_of (points n) (point_number n i j) ≡ point_number n i j
row_is n i j h k = ap (λ (o : Option ℕ). unwrap_or o 0) (row_found n i j h k)

-- ---- points by their places
pub count_points : (s n : ℕ) → length (points_of (pos s) (points n)) ≡ (n + 1) * (n + 1)
count_points s n = length-map (points n) (place_of (pos s)) ∙ count_in_rows (point_row n) (n + 1) (n + 1)

pub point_item : (s n k : ℕ) (d : Point) → k < (n + 1) * (n + 1) → slice_index_or (points_of (pos s) (points n)) k d ≡ lattice (unit_at s) (k % (n + 1)) (k / (n + 1))
point_item s n k d h = get_or-map (place_of (pos s)) (points n) k (point_row 0 0 0) d (omega (arith, count_in_rows (point_row n) (n + 1) (n + 1)))
    ∙ ap (place_of (pos s)) (item_in_rows (point_row n) (n + 1) (n + 1) k (point_row 0 0 0) h)
    ∙ placed s n (k % (n + 1)) (k / (n + 1))

-- the place that a number stands for
pub place_of_number : (c i j k : ℕ) → i < c → k ≡ j * c + i → (k % c ≡ i) × (k / c ≡ j)
place_of_number c i j k h e = one_place c (k % c) (k / c) i j (column_below c k (omega arith)) h (place_number c k ∙ e)

pub number_at : (s n i j : ℕ) → i ≤ n → j ≤ n → point_at (points_of (pos s) (points n)) (point_number n i j) ≡ lattice (unit_at s) i j
number_at s n i j h k =
    let number : ℕ = point_number n i j - 1 in
    let e : number ≡ j * (n + 1) + i = omega arith in
    let p = place_of_number (n + 1) i j number (omega arith) e in
    point_item s n number (record { x = pos 0; y = pos 0 }) (omega (arith, e, place_below n i j h k)) ∙ ap (λ (z : ℕ). lattice (unit_at s) z (number / (n + 1))) p.0 ∙ ap (λ (z : ℕ). lattice (unit_at s) i z) p.1

-- ---- segments
numbered : (shift : ℤ) (rows : List PointRow) (f : ℕ → SegmentRow) (first a m start : ℕ) → start ≡ first + a → segments_from shift rows start (map f (range_with_len a m)) ≡ map (λ k. segment_of shift rows (first + k) (f k)) (range_with_len a m)
numbered shift rows f first a zero start e = refl
numbered shift rows f first a (suc m) start e = ap (λ (z : ℕ). segment_of shift rows z (f a) ∷ segments_from shift rows (start + 1) (map f (range_with_len (a + 1) m))) e
    ∙ ap (λ (ss : List Segment). segment_of shift rows (first + a) (f a) ∷ ss) (numbered shift rows f first (a + 1) m (start + 1) (omega arith))

joined : (shift : ℤ) (rows : List PointRow) (k l : ℕ) (xs ys : List SegmentRow) → l ≡ k + length xs → segments_from shift rows k (xs ++ ys) ≡ segments_from shift rows k xs ++ segments_from shift rows l ys
joined shift rows k l [] ys e = ap (λ (z : ℕ). segments_from shift rows z ys) (omega arith)
joined shift rows k l (x ∷ xs) ys e = ap (λ (ss : List Segment). segment_of shift rows k x ∷ ss) (joined shift rows (k + 1) l xs ys (omega arith))

-- the k-th segment across, and upwards, from 0
abbrev pub across_at : ℕ → ℕ → ℕ → Segment
across_at s n k = segment_of (pos s) (points n) (1 + k) (across n (k % n) (k / n))

abbrev pub up_at : ℕ → ℕ → ℕ → Segment
up_at s n k = segment_of (pos s) (points n) (1 + n * (n + 1) + k) (up n (k % (n + 1)) (k / (n + 1)))

pub all_segments : (s n : ℕ) → segments_of (pos s) (squares n) ≡ map (across_at s n) (range_with_len 0 (n * (n + 1))) ++ map (up_at s n) (range_with_len 0 ((n + 1) * n))
unfolding squares
all_segments s n =
    let long : length (in_rows (across n) n (n + 1)) ≡ n * (n + 1) = count_in_rows (across n) n (n + 1) in
    joined (pos s) (points n) 1 (1 + n * (n + 1)) (in_rows (across n) n (n + 1)) (in_rows (up n) (n + 1) n) (omega (arith, long))
    ∙ ap (λ (ss : List Segment). ss ++ segments_from (pos s) (points n) (1 + n * (n + 1)) (in_rows (up n) (n + 1) n)) (numbered (pos s) (points n) (λ k. across n (k % n) (k / n)) 1 0 (n * (n + 1)) 1 (omega arith))
    ∙ ap (λ (ss : List Segment). map (across_at s n) (range_with_len 0 (n * (n + 1))) ++ ss) (numbered (pos s) (points n) (λ k. up n (k % (n + 1)) (k / (n + 1))) (1 + n * (n + 1)) 0 ((n + 1) * n) (1 + n * (n + 1)) (omega arith))

-- an edge between the rows of two points
edge_between : (s n i j x y : ℕ) → i ≤ n → j ≤ n → x ≤ n → y ≤ n → edge (point_at (points_of (pos s) (points n)) (row_of (points n) (point_number n i j))) (point_at (points_of (pos s) (points n)) (row_of (points n) (point_number n x y))) ≡ edge (lattice (unit_at s) i j) (lattice (unit_at s) x y)
edge_between s n i j x y h k l m =
    let grid : List Point = points_of (pos s) (points n) in
    let a : point_at grid (row_of (points n) (point_number n i j)) ≡ lattice (unit_at s) i j = ap (point_at grid) (row_is n i j h k) ∙ number_at s n i j h k in
    let b : point_at grid (row_of (points n) (point_number n x y)) ≡ lattice (unit_at s) x y = ap (point_at grid) (row_is n x y l m) ∙ number_at s n x y l m in
    ap (λ (z : Point). edge z (point_at grid (row_of (points n) (point_number n x y)))) a ∙ ap (λ (z : Point). edge (lattice (unit_at s) i j) z) b

-- the k-th edge across, and upwards, of a lattice of n times n squares
abbrev pub edge_across : ℕ → ℕ → ℕ → Edge
edge_across u i j = edge (lattice u i j) (lattice u (i + 1) j)

abbrev pub edge_up : ℕ → ℕ → ℕ → Edge
edge_up u i j = edge (lattice u i j) (lattice u i (j + 1))

pub across_edge : (s n k : ℕ) → 1 ≤ n → k < n * (n + 1) → edge_of (points_of (pos s) (points n)) (across_at s n k) ≡ edge_across (unit_at s) (k % n) (k / n)
across_edge s n k h j =
    let c = column_below n k h in let r = row_below n (n + 1) k h j in
    edge_between s n (k % n) (k / n) (k % n + 1) (k / n) (omega arith) (omega arith) (omega arith) (omega arith)

pub up_edge : (s n k : ℕ) → 1 ≤ n → k < (n + 1) * n → edge_of (points_of (pos s) (points n)) (up_at s n k) ≡ edge_up (unit_at s) (k % (n + 1)) (k / (n + 1))
up_edge s n k h j =
    let c = column_below (n + 1) k (omega arith) in let r = row_below (n + 1) n k (omega arith) j in
    edge_between s n (k % (n + 1)) (k / (n + 1)) (k % (n + 1)) (k / (n + 1) + 1) (omega arith) (omega arith) (omega arith) (omega arith)
