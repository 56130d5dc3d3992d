-- Points and sources in a closed box with sides along the axes.
use Rattle.std.specs.Prelude.{ℕ, ◌≤◌, ◌≤ℤ◌}
use Rattle.grid_geom.specs.declared.Point.{Point}
use Rattle.grid_geom.specs.declared.Bounds.{Bounds}
use Rattle.grid_geom.specs.declared.TheConstants.{LONGEST}
use Rattle.grid_geom.specs.Bounds.{IsOnGrid}
use Rattle.geom_check.specs.declared.kinds.Source.{Source}

-- both corners are grid points
pub record IsBoxOnGrid (b : Bounds) : Type 0 where
  pub lo : IsOnGrid b.lo
  pub hi : IsOnGrid b.hi

-- p is in the closed box
pub record IsInBounds (b : Bounds) (p : Point) : Type 0 where
  pub left : b.lo.x ≤ℤ p.x
  pub right : p.x ≤ℤ b.hi.x
  pub below : b.lo.y ≤ℤ p.y
  pub above : p.y ≤ℤ b.hi.y

-- the source is in the box, and its size is from `least` to the grid's width
pub record IsHeldBy (b : Bounds) (least : ℕ) (s : Source) : Type 0 where
  pub place : IsInBounds b s.at
  pub size : least ≤ s.h
  pub small : s.h ≤ LONGEST
