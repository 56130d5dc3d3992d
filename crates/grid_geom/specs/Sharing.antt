-- What two closed segments between grid points share, in rational points.
use Rattle.std.specs.Prelude.{◌≡◌, ◌⊎◌, ◌*ℤ◌}
use Rattle.grid_geom.specs.declared.Point.{Point}
use Rattle.grid_geom.specs.declared.RatPoint.{RatPoint}
use Rattle.grid_geom.specs.Plane.{IsRational}
use Rattle.grid_geom.specs.Sides.{IsOnClosed}

-- the rational point q is on both closed segments
pub record IsShared (q : RatPoint) (a b c d : Point) : Type 0 where
  pub rational : IsRational q
  pub on_first : IsOnClosed q a b
  pub on_second : IsOnClosed q c d

-- some rational point is on both closed segments
pub record DoShare (a b c d : Point) : Type 0 where
  pub at : RatPoint
  pub shared : IsShared at a b c d

-- q stands for the place of the grid point p
pub record IsAt (q : RatPoint) (p : Point) : Type 0 where
  pub x_is : q.x ≡ p.x *ℤ q.k
  pub y_is : q.y ≡ p.y *ℤ q.k

-- e is an end of the segment a-b
abbrev pub IsEnd : Point → Point → Point → Type 0
IsEnd e a b = (e ≡ a) ⊎ (e ≡ b)

-- the segments share nothing, or one point, and that is an end of both
pub data ShareAtMostAnEnd (a b c d : Point) : Type 0 where
  nothing : ((q : RatPoint) → ¬ IsShared q a b c d) → ShareAtMostAnEnd a b c d
  one_end : (e : Point) → IsEnd e a b → IsEnd e c d
      → ((q : RatPoint) → IsShared q a b c d → IsAt q e) → ShareAtMostAnEnd a b c d
