-- Segments between points that need not be whole, and lines between two segments.
use lib.IntN.{ℤ, pos, ◌+ℤ◌, ◌*ℤ◌}
use lib.Signed.{◌<ℤ◌, ◌≤ℤ◌}
use mathlib.Core.Path.{◌≡◌}
use Rattle.grid_geom.specs.declared.Point.{Point}
use Rattle.grid_geom.specs.declared.RatPoint.{RatPoint}
use Rattle.grid_geom.specs.Line.{Line, side, whole}

-- m is on the closed segment of p and q: a mean of the two, by two weights that are not both 0
pub record IsOnSegment (m p q : RatPoint) : Type 0 where
  pub of_p : ℤ
  pub of_q : ℤ
  pub p_weight : pos 0 ≤ℤ of_p
  pub q_weight : pos 0 ≤ℤ of_q
  pub weighted : pos 0 <ℤ (of_p +ℤ of_q)
  pub mean_x : m.x *ℤ (of_p *ℤ p.k +ℤ of_q *ℤ q.k) ≡ m.k *ℤ (of_p *ℤ p.x +ℤ of_q *ℤ q.x)
  pub mean_y : m.y *ℤ (of_p *ℤ p.k +ℤ of_q *ℤ q.k) ≡ m.k *ℤ (of_p *ℤ p.y +ℤ of_q *ℤ q.y)

-- m is inner to the segment between grid points: a mean of its ends by two weights above 0
pub record IsInnerTo (m : RatPoint) (a b : Point) : Type 0 where
  pub on : IsOnSegment m (whole a) (whole b)
  pub of_a : pos 0 <ℤ on.of_p
  pub of_b : pos 0 <ℤ on.of_q

-- some rational point is on both closed segments
pub record DoMeet (p q c d : RatPoint) : Type 0 where
  pub at : RatPoint
  pub rational : pos 0 <ℤ at.k
  pub on_first : IsOnSegment at p q
  pub on_second : IsOnSegment at c d

-- a line has c and d on its closed right side, and p and q on its left
pub record IsSeparated (p q c d : RatPoint) : Type 0 where
  pub line : Line
  pub c_right : side line c ≤ℤ pos 0
  pub d_right : side line d ≤ℤ pos 0
  pub p_left : pos 0 <ℤ side line p
  pub q_left : pos 0 <ℤ side line q
