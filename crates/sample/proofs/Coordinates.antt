-- The points of the squares on the grid: at each shift from 0 on they are a lattice, and their shift is one of these.
use Rattle.std.proofs.Common.{◌≡◌, ℕ, zero, suc, ◌+◌, ◌*◌, ◌^◌, ◌/◌, sym, ◌<◌, ◌≤◌, All, ◌∙◌, ap, subst, refl, arith}
use lib.IntN.{ℤ, pos, negsuc, ◌+ℤ◌}
use Rattle.std.specs.Prelude.{neg_ℤ, min, max}
use Rattle.grid_geom.specs.declared.TheConstants.{LONGEST}
use Rattle.std.proofs.lemmas.Int.{ints}
use Rattle.grid_geom.specs.declared.Point.{Point}
use Rattle.in2d_reader.specs.declared.geometry.PointRow.{PointRow}
use Rattle.geom_check.specs.Shift.{tens, nearest, magnitude_at, grid_at, length_at, FitsAt, FitsRow, IsShift}
use Rattle.geom_check.specs.Placed.{place_of}
use Rattle.geom_check.specs.declared.limits.TheConstants.{COARSEST}
use Rattle.sample.specs.Squares.{whole, point_row, in_rows}
use Rattle.sample.proofs.Tables.{each_in_rows}

-- the grid point in column i and row j of the lattice with this step
abbrev pub lattice : ℕ → ℕ → ℕ → Point
lattice u i j = record { x = pos (i * u); y = pos (j * u) }

-- how many grid steps the length 1 has at a shift
abbrev pub unit_at : ℕ → ℕ
unit_at s = 64 * 10 ^ s

nearest_one : (m : ℕ) → nearest m 1 ≡ m
nearest_one m = omega arith

magnitude_up : (s i : ℕ) → nearest (i * tens (pos s)) (tens (neg_ℤ (pos s))) ≡ i * 10 ^ s
magnitude_up zero i = nearest_one (i * 10 ^ 0)
magnitude_up (suc s) i = nearest_one (i * 10 ^ suc s)

pub whole_magnitude : (s i : ℕ) → magnitude_at (pos s) (whole i) ≡ i * 10 ^ s
whole_magnitude s i = subst (λ (z : ℤ). nearest (i * tens z) (tens (neg_ℤ z)) ≡ i * 10 ^ s) (from_zero s) (magnitude_up s i)
  where
    from_zero : (s : ℕ) → pos s ≡ pos 0 +ℤ pos s
    from_zero s = omega (arith, ints)

grid_whole : (s i : ℕ) → grid_at (pos s) (whole i) ≡ pos (i * unit_at s)
grid_whole s i = ap (λ (m : ℕ). pos m) (steps (10 ^ s) (magnitude_at (pos s) (whole i)) (whole_magnitude s i))
  where
    steps : (t m : ℕ) → m ≡ i * t → 64 * m ≡ i * (64 * t)
    steps t m e = omega (arith, e)

pub placed : (s n i j : ℕ) → place_of (pos s) (point_row n i j) ≡ lattice (unit_at s) i j
placed s n i j = ap (λ (z : ℤ). record { x = z; y = grid_at (pos s) (whole j) }) (grid_whole s i) ∙ ap (λ (z : ℤ). record { x = pos (i * unit_at s); y = z }) (grid_whole s j)

some_row : PointRow
some_row = point_row 0 0 0

-- at the shift 0 the points fit
whole_fits : (i : ℕ) → i ≤ 8 → FitsAt (pos 0) (whole i)
whole_fits i h = omega (arith, whole_magnitude 0 i)

rows_fit : (n : ℕ) → n ≤ 8 → All (FitsRow (pos 0)) (in_rows (point_row n) (n + 1) (n + 1))
rows_fit n h = each_in_rows (FitsRow (pos 0)) (point_row n) (n + 1) (n + 1) some_row (omega arith) (λ i j a b. record { x = whole_fits i (omega arith); y = whole_fits j (omega arith) })

-- at the coarsest they fit too
coarse_fits : (i : ℕ) → i ≤ 8 → FitsAt COARSEST (whole i)
coarse_fits i h = omega arith

pub rows_fit_coarsest : (n : ℕ) → n ≤ 8 → All (FitsRow COARSEST) (in_rows (point_row n) (n + 1) (n + 1))
rows_fit_coarsest n h = each_in_rows (FitsRow COARSEST) (point_row n) (n + 1) (n + 1) some_row (omega arith) (λ i j a b. record { x = coarse_fits i (omega arith); y = coarse_fits j (omega arith) })

-- so the shift is not below 0
pub shift_is : (n : ℕ) (shift : ℤ) → n ≤ 8 → IsShift shift (in_rows (point_row n) (n + 1) (n + 1)) → (s : ℕ) × (shift ≡ pos s)
shift_is n (pos s) h k = (s, refl)
shift_is n (negsuc m) h k = absurd (k.no_greater (pos 0) (omega (arith, ints)) (omega (arith, ints)) (rows_fit n h))

pub unit_positive : (s : ℕ) → 0 < unit_at s
unit_positive s = let h : 1 ≤ 10 ^ s = ten_power s in omega arith
  where
    ten_power : (s : ℕ) → 1 ≤ 10 ^ s
    ten_power zero = omega arith
    ten_power (suc s) = omega (arith, ten_power s)

-- ---- the length 1 in grid steps
long_enough : (m : ℕ) → 64 ≤ 64 * 1 * m / 1 → 64 ≤ max 1 (min LONGEST (64 * 1 * m / 1))
long_enough m h = omega arith

length_up : (s : ℕ) → 64 ≤ length_at (pos s) (whole 1)
length_up s = subst (λ (z : ℤ). 64 ≤ max 1 (min LONGEST (64 * 1 * tens z / tens (neg_ℤ z)))) (from_zero s) (here s)
  where
    from_zero : (s : ℕ) → pos s ≡ pos 0 +ℤ pos s
    from_zero s = omega (arith, ints)

    here : (s : ℕ) → 64 ≤ max 1 (min LONGEST (64 * 1 * tens (pos s) / tens (neg_ℤ (pos s))))
    here zero = omega arith
    here (suc s) = long_enough (10 ^ suc s) (omega (arith, unit_positive (suc s)))

pub unit_long : (n : ℕ) (shift : ℤ) → n ≤ 8 → IsShift shift (in_rows (point_row n) (n + 1) (n + 1)) → 64 ≤ length_at shift (whole 1)
unit_long n shift h k = let found = shift_is n shift h k in subst (λ (z : ℤ). 64 ≤ length_at z (whole 1)) (sym found.1) (length_up found.0)
