-- Numbers of a file moved to the grid. One unit is 10 ^ -shift of the file's lengths, and has 64 grid steps.
--
-- magnitude_at   a number's absolute value in units, rounded half away from zero
-- FitsAt         it has at most 2 ^ 14 units
-- grid_at        a coordinate in grid steps
-- length_at      a length in grid steps
-- size_at        a greatest size in grid steps, where it has an effect
-- IsShift        the finest shift at which each point of a file fits
use Rattle.std.specs.Prelude.{ℕ, zero, suc, ◌+◌, ◌*◌, ◌/◌, ◌^◌, ◌≤◌, min, max, List, All, Option, Some, None, ℤ, pos, negsuc, ◌+ℤ◌, neg_ℤ, ◌≤ℤ◌, ◌<ℤ◌, unsigned_abs}
use Rattle.word_scan.specs.declared.decimals.Dec.{Dec}
use Rattle.geom_check.specs.declared.scale.Scale.{Scale}
use Rattle.in2d_reader.specs.declared.geometry.PointRow.{PointRow}
use Rattle.geom_check.specs.declared.limits.TheConstants.{COARSEST, FINEST, MOST_UNITS}
use Rattle.grid_geom.specs.declared.TheConstants.{LONGEST}

-- 10 to the power z where z is not negative, else 1
abbrev pub tens : ℤ → ℕ
tens (pos n) = 10 ^ n
tens (negsuc n) = 1

-- the whole number nearest to n / d, halves upwards
abbrev pub nearest : ℕ → ℕ → ℕ
nearest n d = (2 * n + d) / (2 * d)

-- |v| * 10 ^ shift, rounded half away from zero
abbrev pub magnitude_at : ℤ → Dec → ℕ
magnitude_at shift v = nearest (unsigned_abs v.digits * tens (v.scale +ℤ shift))
    (tens (neg_ℤ (v.scale +ℤ shift)))

-- at most 2 ^ 14 units
abbrev pub FitsAt : ℤ → Dec → Type 0
FitsAt shift v = magnitude_at shift v ≤ MOST_UNITS

-- a magnitude with the sign of a number
abbrev pub signed_as : ℤ → ℕ → ℤ
signed_as (pos n) magnitude = pos magnitude
signed_as (negsuc n) magnitude = neg_ℤ (pos magnitude)

-- a coordinate in grid steps
abbrev pub grid_at : ℤ → Dec → ℤ
grid_at shift v = signed_as v.digits (64 * magnitude_at shift v)

-- 64 * |v| * 10 ^ shift, rounded downwards, at least 1 and at most 2 ^ 21
abbrev pub length_at : ℤ → Dec → ℕ
length_at shift v = max 1 (min LONGEST
    (64 * unsigned_abs v.digits * tens (v.scale +ℤ shift) / tens (neg_ℤ (v.scale +ℤ shift))))

-- a greatest size in grid steps: one of zero or below has no effect
abbrev pub size_of_digits : ℤ → ℕ → Option ℕ
size_of_digits (pos zero) size = None
size_of_digits (pos (suc n)) size = Some size
size_of_digits (negsuc n) size = None

abbrev pub size_at : ℤ → Option Dec → Option ℕ
size_at shift None = None
size_at shift (Some v) = size_of_digits v.digits (length_at shift v)

-- a shift from -6 to 8
pub record IsScale (scale : Scale) : Type 0 where
  pub least : COARSEST ≤ℤ scale.shift
  pub greatest : scale.shift ≤ℤ FINEST

-- both coordinates of a point fit
pub record FitsRow (shift : ℤ) (row : PointRow) : Type 0 where
  pub x : FitsAt shift row.x
  pub y : FitsAt shift row.y

-- the greatest number from -6 to 8 at which each coordinate of each point fits
pub record IsShift (shift : ℤ) (rows : List PointRow) : Type 0 where
  pub least : COARSEST ≤ℤ shift
  pub greatest : shift ≤ℤ FINEST
  pub fits : All (FitsRow shift) rows
  pub no_greater : (d : ℤ) → shift <ℤ d → d ≤ℤ FINEST → ¬ (All (FitsRow d) rows)
