-- Closed boxes with sides along the axes, as tests.
use lib.Signed.{◌≤ℤ◌, le_z}
use Rattle.std.specs.Prelude.{Bool, ◌&&◌}
use Rattle.grid_geom.specs.declared.Bounds.{Bounds}

-- neither box begins beyond the other's end: of boxes, that they have a point in common
abbrev pub does_meet : Bounds → Bounds → Bool
does_meet a b = le_z a.lo.x b.hi.x && le_z b.lo.x a.hi.x && le_z a.lo.y b.hi.y && le_z b.lo.y a.hi.y

-- the inner box goes no further than the outer one
pub record IsWithin (inner outer : Bounds) : Type 0 where
  pub left : outer.lo.x ≤ℤ inner.lo.x
  pub right : inner.hi.x ≤ℤ outer.hi.x
  pub below : outer.lo.y ≤ℤ inner.lo.y
  pub above : inner.hi.y ≤ℤ outer.hi.y
