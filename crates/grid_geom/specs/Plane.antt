-- Points of the plane by whole numbers. A `RatPoint` (x, y, k) stands for (x/k, y/k), with k at least 1.
use lib.IntN.{ℤ, pos, ◌-ℤ◌, ◌*ℤ◌}
use lib.Signed.{◌<ℤ◌}
use Rattle.grid_geom.specs.declared.Point.{Point}
use Rattle.grid_geom.specs.declared.RatPoint.{RatPoint}

-- twice the signed area of the triangle a, b, c: positive where c is to the left of the way from a to b
abbrev pub orient : Point → Point → Point → ℤ
orient a b c = (b.x -ℤ a.x) *ℤ (c.y -ℤ a.y) -ℤ (b.y -ℤ a.y) *ℤ (c.x -ℤ a.x)

-- the same for a rational point, times its k, so that the sign is that of the value at q
abbrev pub orient_rat : Point → Point → RatPoint → ℤ
orient_rat a b q = (b.x -ℤ a.x) *ℤ (q.y -ℤ a.y *ℤ q.k) -ℤ (b.y -ℤ a.y) *ℤ (q.x -ℤ a.x *ℤ q.k)

-- the three numbers of a rational point stand for a place: k is at least 1
pub record IsRational (q : RatPoint) : Type 0 where
  pub positive : pos 0 <ℤ q.k
