-- How far from its line a rule reaches, by how far its mapped points are from their places in the rule at most. Numbers of a rule are in units of
-- 1/10,000, so products of two are in units of 1/10^8.
--
-- in_range     the leeway of a point in range: 13 + |coordinate in the rule|
-- IsNearPlace  a mapped point is no farther from its place in the rule than a leeway
-- AreNoGreater  leeways are no greater than others, one by one
-- extent       |x0| + the sum of |coefficient| * leeway: no row's value is greater in absolute value
-- CoversFrom   n is at least a number and each of a rule's extents
-- Covers       so where mapped points are in range, from 13 on; CoversBy, with these leeways, from 3 on
-- IsReachOf    the least such whole number; IsReachBy
-- IsInReach    a point is in the box of the line's start widened by 2 n h + 1
use Rattle.std.specs.Prelude.{ℕ, ◌+◌, ◌*◌, ◌-◌, ◌≤◌, max, List, [], ◌∷◌, length, map, slice_index_or, ℤ, pos, ◌+ℤ◌, ◌-ℤ◌, ◌*ℤ◌, unsigned_abs}
use Rattle.std.specs.List.{AllByRecursion}
use Rattle.grid_geom.specs.declared.Point.{Point}
use Rattle.grid_geom.specs.Bounds.{IsWithin}
use Rattle.rule_reader.specs.declared.rule.MapPoint.{MapPoint}
use Rattle.rule_reader.specs.declared.rule.Term.{Term}
use Rattle.rule_reader.specs.declared.rule.Place.{Place}
use Rattle.rule_reader.specs.declared.rule.Rule.{Rule}
use Rattle.rule_maps.specs.declared.reach.Leeway.{Leeway}
use Rattle.rule_maps.specs.Frame.{LocalFrame, way, dot, cross}
use Rattle.rule_maps.specs.Places.{Mapping, either, mapped_at, point_at}

-- ---- leeways
-- a point in range has local coordinates of at most 13
abbrev pub in_range : MapPoint → Leeway
in_range p = record { along = 130000 + unsigned_abs p.x; left = 130000 + unsigned_abs p.y }

-- no greater than that of a point in range
pub record IsLeeway (w : Leeway) : Type 0 where
  pub along : w.along ≤ 290000
  pub left : w.left ≤ 290000

-- the leeway of mapped point k, from 1 on
abbrev pub leeway_at : List Leeway → ℕ → Leeway
leeway_at leeways k = slice_index_or leeways (k - 1) (record { along = 0; left = 0 })

-- seen from the frame, the place is no farther from the point's place in the rule than the leeway
pub record IsNearPlace (f : LocalFrame) (p : MapPoint) (w : Leeway) (at : Point) : Type 0 where
  pub along : IsWithin (pos w.along *ℤ f.q) (pos 10000 *ℤ dot f.e (way f.p1 at) -ℤ p.x *ℤ f.q)
  pub left : IsWithin (pos w.left *ℤ f.q) (pos 10000 *ℤ cross f.e (way f.p1 at) -ℤ p.y *ℤ f.q)

-- so each mapped point, with its leeway
abbrev pub AreNearPlaces : Mapping → List Leeway → Type 0
AreNearPlaces m leeways = (k : ℕ) → 1 ≤ k → k ≤ length m.rule.points
    → IsNearPlace m.frame (point_at m.rule.points k) (leeway_at leeways k) (mapped_at m.mapped k)

pub record IsNoGreater (w v : Leeway) : Type 0 where
  pub along : w.along ≤ v.along
  pub left : w.left ≤ v.left

-- one by one
abbrev pub AreNoGreater : List Leeway → List Leeway → Type 0
AreNoGreater ws vs = (k : ℕ) → IsNoGreater (leeway_at ws k) (leeway_at vs k)

-- ---- extents
-- the leeway of a term's mapped point, in the term's coordinate
abbrev pub leeway_of : List Leeway → Term → ℕ
leeway_of leeways t = either t.of_y (leeway_at leeways t.point).along
    (leeway_at leeways t.point).left

abbrev pub stretch : List Leeway → List Term → ℕ
stretch leeways [] = 0
stretch leeways (t ∷ ts) = unsigned_abs t.coefficient * leeway_of leeways t + stretch leeways ts

abbrev pub extent : List Leeway → ℤ → List Term → ℕ
extent leeways x0 row = 10000 * unsigned_abs x0 + stretch leeways row

-- the greater of a place's two
abbrev pub extent_of : List Leeway → Place → ℕ
extent_of leeways p = max (extent leeways p.x p.row_x) (extent leeways p.y p.row_y)

-- n is at least as great as each extent of these places
abbrev pub AreCovered : List Leeway → ℕ → List Place → Type 0
AreCovered leeways n places = AllByRecursion (λ p. extent_of leeways p ≤ 100000000 * n) places

-- ---- numbers that cover a rule
pub record CoversFrom (from : ℕ) (leeways : List Leeway) (r : Rule) (n : ℕ) : Type 0 where
  pub least : from ≤ n
  pub new_points : AreCovered leeways n r.new_points
  pub area : AreCovered leeways n r.area
  pub limit : AreCovered leeways n r.limit

abbrev pub Covers : Rule → ℕ → Type 0
Covers r n = CoversFrom 13 (map in_range r.points) r n

-- a point in range lies in each reach from 3 on
abbrev pub CoversBy : List Leeway → Rule → ℕ → Type 0
CoversBy leeways r n = CoversFrom 3 leeways r n

pub record IsLeastFrom (from : ℕ) (leeways : List Leeway) (r : Rule) (n : ℕ) : Type 0 where
  pub covers : CoversFrom from leeways r n
  pub least : (m : ℕ) → CoversFrom from leeways r m → n ≤ m

abbrev pub IsReachOf : Rule → ℕ → Type 0
IsReachOf r n = IsLeastFrom 13 (map in_range r.points) r n

abbrev pub IsReachBy : List Leeway → Rule → ℕ → Type 0
IsReachBy leeways r n = IsLeastFrom 3 leeways r n

pub record IsInReach (f : LocalFrame) (n : ℕ) (p : Point) : Type 0 where
  pub columns : IsWithin (pos 2 *ℤ pos n *ℤ f.h +ℤ pos 1) (p.x -ℤ f.p1.x)
  pub rows : IsWithin (pos 2 *ℤ pos n *ℤ f.h +ℤ pos 1) (p.y -ℤ f.p1.y)

-- ---- the greatest of the extents
abbrev pub farthest : List Leeway → List Place → ℕ
farthest leeways [] = 0
farthest leeways (p ∷ ps) = max (extent_of leeways p) (farthest leeways ps)
