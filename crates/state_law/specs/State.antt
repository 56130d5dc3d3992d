-- The state of a domain by numbers: points are numbered from 1, a front line is its number and those of its two ends.
use Rattle.std.specs.Prelude.{ℕ, ◌+◌, ◌-◌, ◌≤◌, ◌<◌, Bool, true, false, cond, ◌&&◌, nat_eq, List, [], ◌∷◌, ◌++◌, length, map, slice_index_or, pos}
use Rattle.std.specs.List.{AllByRecursion, list_any, IsDistinct}
use Rattle.grid_geom.specs.declared.Point.{Point}
use Rattle.grid_geom.specs.declared.Edge.{Edge}
use Rattle.grid_geom.specs.Closed.{same_point}
use Rattle.wind_law.specs.Chains.{edge}

pub record State : Type 0 where
  pub points : List Point
  pub front : List (ℕ × ℕ × ℕ)
  pub next : ℕ
  pub elements : List (List ℕ)

abbrev pub point_at : List Point → ℕ → Point
point_at points n = slice_index_or points (n - 1) (record { x = pos 0; y = pos 0 })

-- the edge between the points with two numbers
abbrev pub pair_edge : List Point → ℕ × ℕ → Edge
pair_edge points s = edge (point_at points s.0) (point_at points s.1)

-- the front lines as edges
abbrev pub front_edges : List Point → List (ℕ × ℕ × ℕ) → List Edge
front_edges points front = map (λ line. pair_edge points (line.1, line.2)) front

-- the sides of an element by its corners' numbers
abbrev pub number_way : ℕ → ℕ → List ℕ → List (ℕ × ℕ)
number_way first from [] = (from, first) ∷ []
number_way first from (to ∷ ns) = (from, to) ∷ number_way first to ns

abbrev pub number_sides : List ℕ → List (ℕ × ℕ)
number_sides [] = []
number_sides (n ∷ ns) = number_way n n ns

abbrev pub corners_of : List Point → List ℕ → List Point
corners_of points ns = map (point_at points) ns

-- the line goes the way of the side
abbrev pub does_join : ℕ × ℕ × ℕ → ℕ × ℕ → Bool
does_join line s = nat_eq line.1 s.0 && nat_eq line.2 s.1

-- a side that is a front line leaves, any other joins reversed with the next number
abbrev pub glue_line : List (ℕ × ℕ × ℕ) → ℕ → ℕ × ℕ → List (ℕ × ℕ × ℕ)
glue_line [] next s = (next, s.1, s.0) ∷ []
glue_line (line ∷ front) next s =
    elim (does_join line s) [ true ↦ front | false ↦ line ∷ glue_line front next s ]

abbrev pub next_after : List (ℕ × ℕ × ℕ) → ℕ → ℕ × ℕ → ℕ
next_after front next s = cond (list_any (λ line. does_join line s) front) next (next + 1)

-- one side after another
abbrev pub glue_lines : List (ℕ × ℕ × ℕ) → ℕ → List (ℕ × ℕ) → List (ℕ × ℕ × ℕ)
glue_lines front next [] = front
glue_lines front next (s ∷ ss) = glue_lines (glue_line front next s) (next_after front next s) ss

abbrev pub next_after_all : List (ℕ × ℕ × ℕ) → ℕ → List (ℕ × ℕ) → ℕ
next_after_all front next [] = next
next_after_all front next (s ∷ ss) =
    next_after_all (glue_line front next s) (next_after front next s) ss

-- the state after the element is glued
abbrev pub glued : State → List ℕ → State
glued st ns = record {
  points = st.points;
  front = glue_lines st.front st.next (number_sides ns);
  next = next_after_all st.front st.next (number_sides ns);
  elements = st.elements ++ ns ∷ [];
}

-- k numbers one of n points
abbrev pub IsListed : ℕ → ℕ → Type 0
IsListed n k = (1 ≤ k) × (k ≤ n)

-- the points are different, and the lines join listed points
pub record IsNumbered (st : State) : Type 0 where
  pub different : IsDistinct same_point st.points
  pub lines_listed : AllByRecursion
      (λ line. IsListed (length st.points) line.1 × IsListed (length st.points) line.2) st.front

-- the lines are in order of making: their numbers rise, and are below the next
abbrev pub AreRising : List (ℕ × ℕ × ℕ) → ℕ → Type 0
AreRising [] next = Unit {0}
AreRising (line ∷ front) next = AllByRecursion (λ other. line.0 < other.0) front × (line.0 < next)
    × AreRising front next
