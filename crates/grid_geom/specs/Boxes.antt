-- Closed boxes with sides along the axes, and boxes that meet.
use lib.IntN.{◌*ℤ◌}
use lib.Signed.{◌≤ℤ◌}
use Rattle.grid_geom.specs.declared.RatPoint.{RatPoint}
use Rattle.grid_geom.specs.declared.Bounds.{Bounds}
use Rattle.grid_geom.specs.Plane.{IsRational}

-- a box: `lo` is at most `hi` in each coordinate
pub record IsBox (b : Bounds) : Type 0 where
  pub columns : b.lo.x ≤ℤ b.hi.x
  pub rows : b.lo.y ≤ℤ b.hi.y

-- the rational point q is in the closed box
pub record IsInBounds (q : RatPoint) (b : Bounds) : Type 0 where
  pub right_of_least : (b.lo.x *ℤ q.k) ≤ℤ q.x
  pub left_of_greatest : q.x ≤ℤ (b.hi.x *ℤ q.k)
  pub above_least : (b.lo.y *ℤ q.k) ≤ℤ q.y
  pub below_greatest : q.y ≤ℤ (b.hi.y *ℤ q.k)

-- some rational point is in both boxes
pub record HaveCommonPlace (a b : Bounds) : Type 0 where
  pub at : RatPoint
  pub rational : IsRational at
  pub in_first : IsInBounds at a
  pub in_second : IsInBounds at b

-- neither box begins beyond the other's end. Of boxes it means that they have a point in common (law_boxes)
pub record DoBoundsMeet (a b : Bounds) : Type 0 where
  pub first_column : a.lo.x ≤ℤ b.hi.x
  pub second_column : b.lo.x ≤ℤ a.hi.x
  pub first_row : a.lo.y ≤ℤ b.hi.y
  pub second_row : b.lo.y ≤ℤ a.hi.y
