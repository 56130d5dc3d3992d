-- The risers that pass a strip, from left to right.
--
-- over, under   where a riser crosses a height: over / under grid steps from the left end of the grid
-- IsFree        two risers share no inner point
-- IsOrder       the risers that pass a strip, from left to right
use Rattle.std.specs.Prelude.{◌≡◌, ◌≢◌, true, not, ◌==◌, slice_index, slice_index_or, ℕ, ◌-◌, ◌*◌, ◌/◌, ◌<◌, ◌≤◌, ◌⊎◌, Bool, ◌+◌, List, length, take, filter, sum_by, All, AllPairs, Contains, pos, ℤ, ◌+ℤ◌, ◌-ℤ◌, ◌*ℤ◌, ◌<ℤ◌, ◌≤ℤ◌, neg_ℤ}
use Rattle.std.specs.List.Sorted.{IsNonDecreasingBy}
use Rattle.grid_geom.specs.declared.RatPoint.{RatPoint}
use Rattle.grid_geom.specs.Bounds.{IsOnGrid, IsWithin}
use Rattle.grid_geom.specs.declared.TheConstants.{GRID}
use Rattle.geom_check.specs.declared.strips.Strip.{Strip}
use Rattle.grid_geom.specs.Sides.{DoCross}
use Rattle.grid_geom.specs.Segment.{IsInnerTo}
use Rattle.geom_check.specs.declared.risers.Riser.{Riser}
use Rattle.geom_check.specs.declared.risers.Passing.{Passing}
use Rattle.grid_geom.specs.Plane.{orient_rat, IsRational}
use Rattle.geom_check.specs.Risers.{passes, one_if, is_beside, winding_of}
use Rattle.geom_check.specs.Accepted.{IsZeroOrOne}
use Rattle.geom_check.specs.Strips.{IsHeight}
use Rattle.grid_geom.specs.declared.Edge.{Edge}
use Rattle.geom_check.specs.declared.limits.TheConstants.{WIDTH, MOST_UNDER, PARTS}

-- the place of a riser at the height y/2, from the left end of the grid: `over` / `under`
abbrev pub over : ℤ → Riser → ℤ
over y r = (r.a.x +ℤ GRID) *ℤ (pos 2 *ℤ r.b.y -ℤ y) +ℤ (r.b.x +ℤ GRID) *ℤ (y -ℤ pos 2 *ℤ r.a.y)

abbrev pub under : Riser → ℤ
under r = pos 2 *ℤ (r.b.y -ℤ r.a.y)

-- q is at the height y/2
abbrev pub IsAt : ℤ → RatPoint → Type 0
IsAt y q = pos 2 *ℤ q.y ≡ y *ℤ q.k

-- the riser goes from below to above the height y/2
pub record IsAcross (y : ℤ) (r : Riser) : Type 0 where
  pub below : (pos 2 *ℤ r.a.y) <ℤ y
  pub above : y <ℤ (pos 2 *ℤ r.b.y)

-- two risers share no inner point
pub record IsFree (r s : Riser) : Type 0 where
  pub crossing : ¬ (DoCross r.a r.b s.a s.b)
  pub inner : (m : RatPoint) → pos 0 <ℤ m.k → IsInnerTo m r.a r.b → ¬ (IsInnerTo m s.a s.b)

-- r crosses the height y/2 to the left of s
abbrev pub IsWest : ℤ → Riser → Riser → Type 0
IsWest y r s = (over y r *ℤ under s) <ℤ (over y s *ℤ under r)

-- q is at a height of the strip, with its lower one and without its upper one
pub record IsInStrip (low high : ℤ) (q : RatPoint) : Type 0 where
  pub rational : pos 0 <ℤ q.k
  pub from_low : (low *ℤ q.k) ≤ℤ q.y
  pub below_high : q.y <ℤ (high *ℤ q.k)

-- the riser goes from one side of the strip to the other
pub record IsPassing (low high : ℤ) (r : Riser) : Type 0 where
  pub from_low : r.a.y ≤ℤ low
  pub to_high : high ≤ℤ r.b.y

-- the key of a riser: its place in parts of a grid step, rounded downwards
pub record IsKey (y : ℤ) (r : Riser) (key : ℕ) : Type 0 where
  pub over_is : ℕ
  pub under_is : ℕ
  pub same_over : pos over_is ≡ over y r
  pub same_under : pos under_is ≡ under r
  pub positive : 0 < under_is
  pub small : under_is ≤ MOST_UNDER
  pub key_is : key ≡ over_is * PARTS / under_is

-- both ends are grid points
pub record IsRiserOnGrid (r : Riser) : Type 0 where
  pub a : IsOnGrid r.a
  pub b : IsOnGrid r.b

-- the riser goes up
abbrev pub IsRising : Riser → Type 0
IsRising r = r.a.y <ℤ r.b.y

-- a strip of the grid
pub record IsStripOnGrid (strip : Strip) : Type 0 where
  pub ordered : strip.low <ℤ strip.high
  pub low_within : IsWithin GRID strip.low
  pub high_within : IsWithin GRID strip.high

-- neither end of the riser is inside the strip
pub record IsClear (low high : ℤ) (r : Riser) : Type 0 where
  pub a_clear : (r.a.y ≤ℤ low) ⊎ (high ≤ℤ r.a.y)
  pub b_clear : (r.b.y ≤ℤ low) ⊎ (high ≤ℤ r.b.y)

-- the risers that pass a strip, from left to right
pub record IsOrder (low high : ℤ) (risers : List Riser) (items : List Passing) : Type 0 where
  pub passing : All (λ p. IsPassing low high p.riser) items
  pub keys : All (λ p. IsKey (low +ℤ high) p.riser p.key) items
  pub rising : IsNonDecreasingBy (λ p. p.key) items
  pub free : AllPairs (λ p s. IsFree p.riser s.riser) items
  pub among : All (λ p. Contains risers p.riser) items
  pub same : (f : Riser → ℕ) → sum_by (λ p. f p.riser) items
      ≡ sum_by f (filter (passes low high) risers)

-- a riser that has a chosen domain to its west, to its east
abbrev pub west_of : (ℕ → Bool) → Passing → ℕ
west_of chosen p = one_if (chosen p.riser.west)

abbrev pub east_of : (ℕ → Bool) → Passing → ℕ
east_of chosen p = one_if (chosen p.riser.east)

-- by how much the winding number of the chosen domains rises over these risers, from left to right
abbrev pub rises : (ℕ → Bool) → List Passing → ℤ
rises chosen ps = pos (sum_by (east_of chosen) ps) -ℤ pos (sum_by (west_of chosen) ps)

-- the first place, from the left, at which these risers make a winding number other than 0 and 1: that to the right of item j
pub record IsFaultyAfter (chosen : ℕ → Bool) (items : List Passing) (j : ℕ) : Type 0 where
  pub in_list : j < length items
  pub fault : ¬ IsZeroOrOne (rises chosen (take (j + 1) items))
  pub first : (i : ℕ) → i ≤ j → IsZeroOrOne (rises chosen (take i items))

-- q is on no riser
abbrev pub IsOffRisers : RatPoint → List Riser → Type 0
IsOffRisers q rs = All (λ r. is_beside q r ≡ true → orient_rat r.a r.b q ≢ pos 0) rs

-- a place to the left of the grid, one step from it, at the height y/2
abbrev pub far : ℤ → RatPoint
far y = record { x = neg_ℤ (pos 2 *ℤ (GRID +ℤ pos 1)); y = y; k = pos 2 }

-- the chosen domains have a winding number of 0 or 1 everywhere in the strip
abbrev pub IsSound : ℤ → ℤ → (ℕ → Bool) → List Riser → Type 0
IsSound low high chosen rs = (q : RatPoint) → IsInStrip low high q → IsOffRisers q rs
    → IsZeroOrOne (winding_of chosen q rs)

-- the first of the risers that pass a strip on whose right the winding number of the chosen domains is neither 0 nor 1
pub record IsStripFault (low high : ℤ) (chosen : ℕ → Bool) (rs : List Riser) (left : Passing) : Type 0 where
  pub items : List Passing
  pub order : IsOrder low high rs items
  pub place : ℕ
  pub faulty : IsFaultyAfter chosen items place
  pub left_is : (d : Passing) → slice_index_or items place d ≡ left

-- the height y is among the levels, which are counted from the bottom of the grid
pub record HasLevel (levels : List ℕ) (y : ℤ) : Type 0 where
  pub index : ℕ
  pub in_list : index < length levels
  pub level : pos (slice_index levels index) ≡ y +ℤ GRID

-- the heights of both ends of a riser are among the levels
pub record HasLevels (levels : List ℕ) (r : Riser) : Type 0 where
  pub a : HasLevel levels r.a.y
  pub b : HasLevel levels r.b.y

-- the height of a level
abbrev pub height_of : List ℕ → ℕ → ℤ
height_of levels i = pos (slice_index levels i) -ℤ GRID

-- the winding number of the chosen domains changes at the riser
abbrev pub is_border : (ℕ → Bool) → Riser → Bool
is_border chosen r = not (one_if (chosen r.west) == one_if (chosen r.east))

-- the chosen domains have a winding number of 0 or 1 at every place off the risers
abbrev pub IsSoundAll : (ℕ → Bool) → List Riser → Type 0
IsSoundAll chosen rs = (q : RatPoint) → IsRational q → IsOffRisers q rs
    → IsZeroOrOne (winding_of chosen q rs)

-- the lowest strip with a fault, and the first riser of it with one on its right
pub record IsLowestFault (levels : List ℕ) (chosen : ℕ → Bool) (rs : List Riser) (strip : Strip) (left : Passing) : Type 0 where
  pub place : ℕ
  pub positive : 1 ≤ place
  pub in_list : place < length levels
  pub low_is : strip.low ≡ height_of levels (place - 1)
  pub high_is : strip.high ≡ height_of levels place
  pub fault : IsStripFault strip.low strip.high chosen rs left
  pub below : (k : ℕ) → 1 ≤ k → k < place
      → IsSound (height_of levels (k - 1)) (height_of levels k) chosen rs

-- the levels of both ends of each of the first edges, and of nothing else
pub record IsLevelsOf (edges : List Edge) (count : ℕ) (levels : List ℕ) : Type 0 where
  pub starts : (k : ℕ) (d : Edge) (n : ℕ) → k < count
      → pos n ≡ (slice_index_or edges k d).a.y +ℤ GRID → Contains levels n
  pub ends : (k : ℕ) (d : Edge) (n : ℕ) → k < count → pos n ≡ (slice_index_or edges k d).b.y +ℤ GRID
      → Contains levels n
  pub heights : All (λ n. IsHeight edges (pos n -ℤ GRID)) levels
  pub small : All (λ n. n ≤ WIDTH) levels
