-- Bounds on numbers: the grid's points, and the rational points that calls take.
use lib.IntN.{ℤ, pos, neg_ℤ}
use lib.Signed.{◌<ℤ◌, ◌≤ℤ◌}
use Rattle.grid_geom.specs.declared.Point.{Point}
use Rattle.grid_geom.specs.declared.RatPoint.{RatPoint}
use Rattle.grid_geom.specs.declared.TheConstants.{GRID, GREATEST_NUMERATOR, GREATEST_DENOMINATOR}

-- z is at most n in absolute value
pub record IsWithin (n z : ℤ) : Type 0 where
  pub least : neg_ℤ n ≤ℤ z
  pub greatest : z ≤ℤ n

-- p is a grid point
pub record IsOnGrid (p : Point) : Type 0 where
  pub x_within : IsWithin GRID p.x
  pub y_within : IsWithin GRID p.y

-- q is a rational point whose numbers are small enough for the calls that take one
pub record IsMeasured (q : RatPoint) : Type 0 where
  pub x_within : IsWithin GREATEST_NUMERATOR q.x
  pub y_within : IsWithin GREATEST_NUMERATOR q.y
  pub positive : pos 0 <ℤ q.k
  pub k_within : q.k ≤ℤ GREATEST_DENOMINATOR
