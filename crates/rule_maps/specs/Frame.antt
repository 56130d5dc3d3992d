-- The local frame of a base line: its start, its direction, its unit, and places seen from it.
--
-- IsFrameOf   the frame of a line and a size
-- IsFrame     some line and size have this frame
-- local_x     how far along the line a point is, in units; local_y, how far to its left
-- local4_x    the same in units of 1/10,000, rounded
-- IsInRange   a rule may map this point
use Rattle.std.specs.Prelude.{◌≡◌, ◌≢◌, ℕ, ◌≤◌, ℤ, pos, ◌+ℤ◌, ◌-ℤ◌, ◌*ℤ◌, ◌≤ℤ◌, ◌<ℤ◌}
use Rattle.std.specs.Int.{int_max, int_min, int_div_euclid}
use Rattle.grid_geom.specs.declared.Point.{Point}
use Rattle.grid_geom.specs.declared.TheConstants.{LONGEST}
use Rattle.grid_geom.specs.Bounds.{IsWithin, IsOnGrid}
use Rattle.rule_maps.specs.declared.frame.TheConstants.{OFFSET, HIGH}
use Rattle.rule_maps.specs.Fractions.{Fraction, nearest}

-- what a contract sees of a frame: the line's start and direction, its length rounded down, the height, the square unit, the line's middle rounded down
pub record LocalFrame : Type 0 where
  pub p1 : Point
  pub e : Point
  pub len : ℤ
  pub h : ℤ
  pub q : ℤ
  pub middle : Point

-- the way from one point to another
abbrev pub way : Point → Point → Point
way from to = record { x = to.x -ℤ from.x; y = to.y -ℤ from.y }

-- each coordinate is at most the grid's width, as that of a way between grid points
pub record IsWay (e : Point) : Type 0 where
  pub x_within : IsWithin OFFSET e.x
  pub y_within : IsWithin OFFSET e.y

abbrev pub dot : Point → Point → ℤ
dot a b = a.x *ℤ b.x +ℤ a.y *ℤ b.y

-- positive where b points to the left of a
abbrev pub cross : Point → Point → ℤ
cross a b = a.x *ℤ b.y -ℤ a.y *ℤ b.x

-- the greatest whole number whose square is at most z
pub record IsRoot (z n : ℤ) : Type 0 where
  pub not_negative : pos 0 ≤ℤ n
  pub least : (n *ℤ n) ≤ℤ z
  pub greatest : z <ℤ ((n +ℤ pos 1) *ℤ (n +ℤ pos 1))

-- the half, rounded down
abbrev pub half : ℤ → ℤ
half z = int_div_euclid z (pos 2)

-- the size, raised to the half of the length rounded up, then lowered to three lengths
abbrev pub height : ℤ → ℤ → ℤ
height len size = int_min (int_max size (half (len +ℤ pos 1))) (pos 3 *ℤ len)

-- the frame of the line from p1 to p2, at this size
pub record IsFrameOf (p1 p2 : Point) (size : ℕ) (f : LocalFrame) : Type 0 where
  pub start : f.p1 ≡ p1
  pub direction : f.e ≡ way p1 p2
  pub length : IsRoot (dot f.e f.e) f.len
  pub high : f.h ≡ height f.len (pos size)
  pub unit : f.q ≡ f.len *ℤ f.h
  pub middle_x : f.middle.x ≡ half (p1.x +ℤ p2.x)
  pub middle_y : f.middle.y ≡ half (p1.y +ℤ p2.y)

-- two different grid points and a size from 1 to `LONGEST`
pub record IsBase (p1 p2 : Point) (size : ℕ) : Type 0 where
  pub start_on : IsOnGrid p1
  pub end_on : IsOnGrid p2
  pub different : p1 ≢ p2
  pub positive : 1 ≤ size
  pub small : size ≤ LONGEST

-- from 1 to `HIGH`, as each frame's height
pub record IsHeight (n : ℤ) : Type 0 where
  pub least : pos 1 ≤ℤ n
  pub greatest : n ≤ℤ HIGH

-- the frame of some line and size
pub record IsFrame (f : LocalFrame) : Type 0 where
  pub from : Point
  pub to : Point
  pub size : ℕ
  pub base : IsBase from to size
  pub frame : IsFrameOf from to size f

-- ---- local places

abbrev pub local_x : LocalFrame → Point → Fraction
local_x f p = record { top = dot f.e (way f.p1 p); bottom = f.q }

abbrev pub local_y : LocalFrame → Point → Fraction
local_y f p = record { top = cross f.e (way f.p1 p); bottom = f.q }

-- a fraction in units of 1/10,000, rounded to the nearest, halves upwards
abbrev pub in_units : Fraction → ℤ
in_units x = nearest (record { top = pos 10000 *ℤ x.top; bottom = x.bottom })

abbrev pub local4_x : LocalFrame → Point → ℤ
local4_x f p = in_units (local_x f p)

abbrev pub local4_y : LocalFrame → Point → ℤ
local4_y f p = in_units (local_y f p)

-- a grid point within four heights of the middle in each coordinate
pub record IsInRange (f : LocalFrame) (p : Point) : Type 0 where
  pub on : IsOnGrid p
  pub columns : IsWithin (pos 4 *ℤ f.h) (p.x -ℤ f.middle.x)
  pub rows : IsWithin (pos 4 *ℤ f.h) (p.y -ℤ f.middle.y)
