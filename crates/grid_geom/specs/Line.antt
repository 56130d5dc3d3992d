-- A line by the whole numbers of its equation: the sign of `side l q` says on which side of it q lies.
use lib.IntN.{ℤ, pos, ◌+ℤ◌, ◌-ℤ◌, ◌*ℤ◌}
use lib.Signed.{◌<ℤ◌, ◌≤ℤ◌}
use Rattle.grid_geom.specs.declared.Point.{Point}
use Rattle.grid_geom.specs.declared.RatPoint.{RatPoint}

-- the line a x + b y + c = 0
pub record Line : Type 0 where
  pub a : ℤ
  pub b : ℤ
  pub c : ℤ

-- k times the value at q
abbrev pub side : Line → RatPoint → ℤ
side l q = l.a *ℤ q.x +ℤ l.b *ℤ q.y +ℤ l.c *ℤ q.k

-- the grid point as a rational point
abbrev pub whole : Point → RatPoint
whole p = record { x = p.x; y = p.y; k = pos 1 }

-- the line from c to d, whose left is the positive side
abbrev pub through : Point → Point → Line
through c d = record { a = c.y -ℤ d.y; b = d.x -ℤ c.x; c = c.x *ℤ d.y -ℤ c.y *ℤ d.x }

-- the segment from v to w, but for v itself, is on one open side of the line
pub data IsClear (v w : RatPoint) (l : Line) : Type 0 where
  clear_left : pos 0 ≤ℤ side l v → pos 0 <ℤ side l w → IsClear v w l
  clear_right : side l v ≤ℤ pos 0 → side l w <ℤ pos 0 → IsClear v w l
