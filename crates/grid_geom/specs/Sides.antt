-- Where a point lies beside a segment.
use lib.IntN.{ℤ, pos, ◌*ℤ◌}
use lib.Signed.{◌<ℤ◌, ◌≤ℤ◌}
use mathlib.Core.Logic.{◌⊎◌}
use mathlib.Core.Path.{◌≡◌}
use Rattle.std.specs.Int.{int_max, int_min}
use Rattle.grid_geom.specs.declared.Point.{Point}
use Rattle.grid_geom.specs.declared.RatPoint.{RatPoint}
use Rattle.grid_geom.specs.Plane.{orient, orient_rat}

-- z is between u and w, or one of them
pub record IsBetween (z u w : ℤ) : Type 0 where
  pub least : int_min u w ≤ℤ z
  pub greatest : z ≤ℤ int_max u w

-- p is in the closed box of a and b
pub record IsInBox (p a b : Point) : Type 0 where
  pub columns : IsBetween p.x a.x b.x
  pub rows : IsBetween p.y a.y b.y

-- the closed spans from u to w and from y to z have a number in common
pub record DoSpansMeet (u w y z : ℤ) : Type 0 where
  pub not_after : int_min u w ≤ℤ int_max y z
  pub not_before : int_min y z ≤ℤ int_max u w

-- the closed boxes of a-b and of c-d meet
pub record DoBoxesMeet (a b c d : Point) : Type 0 where
  pub columns : DoSpansMeet a.x b.x c.x d.x
  pub rows : DoSpansMeet a.y b.y c.y d.y

-- c and d are strictly on one side of the line a-b
pub data AreBeside (a b c d : Point) : Type 0 where
  both_left : pos 0 <ℤ orient a b c → pos 0 <ℤ orient a b d → AreBeside a b c d
  both_right : orient a b c <ℤ pos 0 → orient a b d <ℤ pos 0 → AreBeside a b c d

-- p is between a and b on their segment, and is neither
pub record IsOnOpen (p a b : Point) : Type 0 where
  pub straight : orient a b p ≡ pos 0
  pub right_of_least : int_min a.x b.x ≤ℤ p.x
  pub left_of_greatest : p.x ≤ℤ int_max a.x b.x
  pub above_least : int_min a.y b.y ≤ℤ p.y
  pub below_greatest : p.y ≤ℤ int_max a.y b.y
  pub not_a : ¬ (p ≡ a)
  pub not_b : ¬ (p ≡ b)

-- q is on the closed segment of a and b
pub record IsOnClosed (q : RatPoint) (a b : Point) : Type 0 where
  pub straight : orient_rat a b q ≡ pos 0
  pub right_of_least : (int_min a.x b.x *ℤ q.k) ≤ℤ q.x
  pub left_of_greatest : q.x ≤ℤ (int_max a.x b.x *ℤ q.k)
  pub above_least : (int_min a.y b.y *ℤ q.k) ≤ℤ q.y
  pub below_greatest : q.y ≤ℤ (int_max a.y b.y *ℤ q.k)

-- q is in the open triangle of a, b and c, which turns to the left
pub record IsInTriangle (q : RatPoint) (a b c : Point) : Type 0 where
  pub left_of_first : pos 0 <ℤ orient_rat a b q
  pub left_of_second : pos 0 <ℤ orient_rat b c q
  pub left_of_third : pos 0 <ℤ orient_rat c a q

-- the ends of each lie strictly on different sides of the other
pub record DoCross (a b c d : Point) : Type 0 where
  pub ends_first : (orient a b c *ℤ orient a b d) <ℤ pos 0
  pub ends_second : (orient c d a *ℤ orient c d b) <ℤ pos 0

-- the segments a-b and c-d have the same two ends
abbrev pub HaveSameEnds : Point → Point → Point → Point → Type 0
HaveSameEnds a b c d = (a ≡ c) × (b ≡ d) ⊎ (a ≡ d) × (b ≡ c)

-- two segments have the same two ends, or an end of one is in the open other, or they cross
pub data DoTangle (a b c d : Point) : Type 0 where
  same_ends : a ≡ c → b ≡ d → DoTangle a b c d
  swapped_ends : a ≡ d → b ≡ c → DoTangle a b c d
  first_start : IsOnOpen a c d → DoTangle a b c d
  first_end : IsOnOpen b c d → DoTangle a b c d
  second_start : IsOnOpen c a b → DoTangle a b c d
  second_end : IsOnOpen d a b → DoTangle a b c d
  crossing : DoCross a b c d → DoTangle a b c d
