-- Exact fractions of whole numbers: a numerator over a positive denominator. Nothing is rounded but by `nearest`.
--
-- plus, minus, times, divided   arithmetic
-- are_equal                     two fractions are one number
-- nearest                       the nearest whole number, halves upwards
use Rattle.std.specs.Prelude.{◌≡◌, ℤ, pos, ◌+ℤ◌, ◌-ℤ◌, ◌*ℤ◌, ◌≤ℤ◌, ◌<ℤ◌}
use Rattle.std.specs.Int.{int_div_euclid}

pub record Fraction : Type 0 where
  pub top : ℤ
  pub bottom : ℤ

-- its denominator is positive, as that of each fraction here
pub record IsFraction (x : Fraction) : Type 0 where
  pub positive : pos 0 <ℤ x.bottom

abbrev pub whole : ℤ → Fraction
whole n = record { top = n; bottom = pos 1 }

abbrev pub plus : Fraction → Fraction → Fraction
plus x y = record { top = x.top *ℤ y.bottom +ℤ y.top *ℤ x.bottom; bottom = x.bottom *ℤ y.bottom }

abbrev pub minus : Fraction → Fraction → Fraction
minus x y = record { top = x.top *ℤ y.bottom -ℤ y.top *ℤ x.bottom; bottom = x.bottom *ℤ y.bottom }

abbrev pub times : Fraction → Fraction → Fraction
times x y = record { top = x.top *ℤ y.top; bottom = x.bottom *ℤ y.bottom }

-- divided by a positive whole number
abbrev pub divided : Fraction → ℤ → Fraction
divided x n = record { top = x.top; bottom = x.bottom *ℤ n }

-- the two stand for one number
pub record AreEqual (x y : Fraction) : Type 0 where
  pub crossed : x.top *ℤ y.bottom ≡ y.top *ℤ x.bottom

-- x is at most n in absolute value
pub record IsWithinOf (n : ℤ) (x : Fraction) : Type 0 where
  pub least : (pos 0 -ℤ n *ℤ x.bottom) ≤ℤ x.top
  pub greatest : x.top ≤ℤ (n *ℤ x.bottom)

-- x + 1/2 rounded down: the whole number nearest to x, halves upwards
abbrev pub nearest : Fraction → ℤ
nearest x = int_div_euclid (pos 2 *ℤ x.top +ℤ x.bottom) (pos 2 *ℤ x.bottom)

-- n is at most half away from x, and is the greater where two are: n - 1/2 ≤ x < n + 1/2
pub record IsNearest (x : Fraction) (n : ℤ) : Type 0 where
  pub not_more : (pos 2 *ℤ n *ℤ x.bottom -ℤ x.bottom) ≤ℤ (pos 2 *ℤ x.top)
  pub not_less : (pos 2 *ℤ x.top) <ℤ (pos 2 *ℤ n *ℤ x.bottom +ℤ x.bottom)
