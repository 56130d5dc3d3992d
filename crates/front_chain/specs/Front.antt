-- What a contract sees of a domain's front, and what is true of every front.
-- Origin: the advancing front of Schoeberl 1997 and of Bonet and Peraire 1991. The code keeps points and lines in hashed tables; these are lists.
use lib.IntN.{ℤ, pos, negsuc}
use lib.Signed.{le_z}
use Rattle.std.specs.Prelude.{◌≡◌, ◌⊎◌, ℕ, zero, suc, ◌+◌, ◌-◌, ◌*◌, ◌/◌, ◌^◌, ◌≤◌, Bool, false, ◌&&◌, ◌||◌, nat_eq, nat_lt, not, List, [], ◌∷◌, ◌++◌, length, map, filter, position, Option, Some, None, is_some}
use Rattle.std.specs.Option.{option_map, option_map_or}
use Rattle.std.specs.List.{All, AllByRecursion, Contains, IsDistinct, find, list_any, after_first}
use Rattle.grid_geom.specs.declared.Point.{Point}
use Rattle.grid_geom.specs.declared.Bounds.{Bounds}
use Rattle.grid_geom.specs.declared.Edge.{Edge}
use Rattle.grid_geom.specs.Bounds.{IsOnGrid}
use Rattle.grid_geom.specs.Closed.{same_point}
use Rattle.grid_geom.specs.Area.{shoelace}
use Rattle.state_law.specs.Gluing.{MayBeGlued}
use Rattle.state_law.specs.State.{State, point_at, pair_edge, front_edges, corners_of, IsListed, IsNumbered, AreRising}
use Rattle.state_law.specs.Saved.{IsFrontPoint}
use Rattle.state_law.specs.Region.{IsRegion, IsSettled}

-- the domain's points, numbered from 1; the front lines as (number, from, to) in order of making; the next line number; the walk, an order of the lines' numbers that the front chooses;
-- the points that are listed and no end of a line nor a corner of a glued element so far; how many points and lines may still be added without memory
pub record FrontState : Type 0 where
  pub points : List Point
  pub lines : List (ℕ × ℕ × ℕ)
  pub next : ℕ
  pub walk : List ℕ
  pub waiting : List ℕ
  pub spare_points : ℕ
  pub spare_lines : ℕ

-- how many elements may still be glued: each adds at most four lines
abbrev pub spare_elements : FrontState → ℕ
spare_elements f = f.spare_lines / 4

-- ---- what is asked of a front
-- the ends of the line with this number
abbrev pub line_at : List (ℕ × ℕ × ℕ) → ℕ → Option (ℕ × ℕ)
line_at lines n = option_map (λ line. (line.1, line.2)) (find (λ line. nat_eq line.0 n) lines)

-- the number of the line with these ends
abbrev pub number_between : List (ℕ × ℕ × ℕ) → ℕ → ℕ → Option ℕ
number_between lines a b = option_map (λ line. line.0)
    (find (λ line. nat_eq line.1 a && nat_eq line.2 b) lines)

-- the first line in order of making whose number is above: since numbers rise, the least
abbrev pub number_above : List (ℕ × ℕ × ℕ) → ℕ → Option ℕ
number_above lines after = option_map (λ line. line.0) (find (λ line. nat_lt after line.0) lines)

-- the number of the point at this place
abbrev pub number_of : List Point → Point → Option ℕ
number_of points p = option_map (λ i. i + 1) (position (same_point p) points)

-- whether the point with this number is an end of a line
abbrev pub is_end : List (ℕ × ℕ × ℕ) → ℕ → Bool
is_end lines n = list_any (λ line. nat_eq line.1 n || nat_eq line.2 n) lines

-- the front lines as edges between places
abbrev pub edges_of : FrontState → List Edge
edges_of f = front_edges f.points f.lines

-- the points and lines as a state of which no element is kept
abbrev pub state_of : FrontState → State
state_of f = record { points = f.points; front = f.lines; next = f.next; elements = [] }

-- ---- near lines
-- the span from u to w is not all above `greatest`, nor all below `least`
abbrev pub does_reach : ℤ → ℤ → ℤ → ℤ → Bool
does_reach least greatest u w = (le_z u greatest || le_z w greatest)
    && (le_z least u || le_z least w)

-- the closed box of the edge's ends and the closed box b have a point in common
abbrev pub does_meet : Bounds → Edge → Bool
does_meet b e = does_reach b.lo.x b.hi.x e.a.x e.b.x && does_reach b.lo.y b.hi.y e.a.y e.b.y

-- whether the number is that of a front line whose box meets b
abbrev pub is_near : FrontState → Bounds → ℕ → Bool
is_near f b n = option_map_or (λ ends. does_meet b (pair_edge f.points ends))
    (line_at f.lines n) false

-- the first line of the walk whose box meets b, and the first after a line
abbrev pub first_in_walk : FrontState → Bounds → Option ℕ
first_in_walk f b = find (is_near f b) f.walk

abbrev pub next_in_walk : FrontState → Bounds → ℕ → Option ℕ
next_in_walk f b after = find (is_near f b) (after_first (nat_eq after) f.walk)

-- the lines of the walk whose boxes meet b, in its order
abbrev pub near_in_walk : FrontState → Bounds → List ℕ
near_in_walk f b = filter (is_near f b) f.walk

-- what a walk that stands at a near line has still to meet: that line and the near ones after it
abbrev pub still_near : FrontState → Bounds → Option ℕ → List ℕ
still_near f b None = []
still_near f b (Some n) = n ∷ filter (is_near f b) (after_first (nat_eq n) f.walk)

-- the numbers of the front lines whose boxes meet b, each once
pub record AreNear (f : FrontState) (b : Bounds) (numbers : List ℕ) : Type 0 where
  pub each : (n : ℕ) → list_any (nat_eq n) numbers ≡ is_near f b n
  pub once : IsDistinct nat_eq numbers

-- ---- what is true of every front
-- a whole number, read as 0 where it is below 0
abbrev pub or_zero : ℤ → ℕ
or_zero (pos n) = n
or_zero (negsuc n) = 0

-- the walk has the number of each front line once, and no other number
pub record IsWalk (walk : List ℕ) (lines : List (ℕ × ℕ × ℕ)) : Type 0 where
  pub each : (n : ℕ) → list_any (nat_eq n) walk ≡ is_some (line_at lines n)
  pub once : IsDistinct nat_eq walk

-- the place is a front point, or settled, or its number is waiting
abbrev pub IsPlaced : FrontState → ℕ → Type 0
IsPlaced f n = (IsFrontPoint (edges_of f) (point_at f.points n)
    ⊎ IsSettled (edges_of f) (point_at f.points n)) ⊎ Contains f.waiting n

pub record IsFrontState (f : FrontState) : Type 0 where
  -- points are different and on the grid, lines join listed points
  pub numbered : IsNumbered (state_of f)
  pub on_grid : All IsOnGrid f.points
  -- line numbers are at least 1, rise and are below the next one
  pub positive : AllByRecursion (λ line. 1 ≤ line.0) f.lines
  pub rising : AreRising f.lines f.next
  -- the lines are closed, none tangles with another, and round each point off them they wind 0 times or once
  pub region : IsRegion (edges_of f)
  -- so the next line number stays within 64 bits: a gluing adds at most four lines and takes at least 1 from the doubled area
  pub bounded : f.next + 4 * or_zero (shoelace (edges_of f)) ≤ 2 ^ 64 - 1
  pub walked : IsWalk f.walk f.lines
  -- each listed place is a front point, settled, or waiting
  pub placed : (n : ℕ) → IsListed (length f.points) n → IsPlaced f n

-- ---- how a front begins and changes
-- the lines with these ends, numbered in their order
abbrev pub numbered_from : ℕ → List (ℕ × ℕ) → List (ℕ × ℕ × ℕ)
numbered_from n [] = []
numbered_from n (ends ∷ rest) = (n, ends.0, ends.1) ∷ numbered_from (n + 1) rest

-- what the opening points and lines must be
pub record IsOpening (points : List Point) (lines : List (ℕ × ℕ)) : Type 0 where
  pub numbered : IsNumbered (record {
    points = points;
    front = numbered_from 1 lines;
    next = 1 + length lines;
    elements = [];
  })
  pub on_grid : All IsOnGrid points
  pub region : IsRegion (map (pair_edge points) lines)
  pub bounded : length lines + 4 * or_zero (shoelace (map (pair_edge points) lines)) ≤ 2 ^ 64 - 2

-- the numbers from 1 to n
abbrev pub numbers_to : ℕ → List ℕ
numbers_to zero = []
numbers_to (suc n) = numbers_to n ++ suc n ∷ []

-- of the points with numbers from 1 to n, those that no line leaves: of closed lines, those that are no end of one
abbrev pub idle_points : List (ℕ × ℕ × ℕ) → ℕ → List ℕ
idle_points lines n = filter (λ k. not (list_any (λ line. nat_eq line.1 k) lines)) (numbers_to n)

-- the element, by its corners' numbers, may be glued; it has three corners or four
pub record IsGluable (f : FrontState) (ns : List ℕ) : Type 0 where
  pub few : length ns ≤ 4
  pub listed : AllByRecursion (IsListed (length f.points)) ns
  pub may : MayBeGlued (corners_of f.points ns) (edges_of f)

-- the numbers that still wait once these are corners of an element
abbrev pub still_waiting : List ℕ → List ℕ → List ℕ
still_waiting waiting ns = filter (λ n. not (list_any (nat_eq n) ns)) waiting
