-- The lines of a state near a box, with their places; a side glued to them.
use Rattle.std.specs.Prelude.{◌≡◌, ℕ, ◌+◌, Bool, true, false, cond, ◌&&◌, nat_eq, List, [], ◌∷◌, ◌++◌, map, filter, slice_index_or, ◌≤ℤ◌, Option, None, Some, is_some}
use Rattle.std.specs.Option.{option_map_or}
use Rattle.std.specs.List.{AllByRecursion, list_any}
use Rattle.grid_geom.specs.declared.Point.{Point}
use Rattle.grid_geom.specs.declared.Bounds.{Bounds}
use Rattle.grid_geom.specs.Bounds.{IsOnGrid}
use Rattle.state_law.specs.State.{point_at, pair_edge, corners_of, IsListed}
use Rattle.front_chain.specs.Front.{FrontState, does_meet, line_at}
use Rattle.admission.specs.declared.triangle.Line.{Line}
use Rattle.admission.specs.declared.shapes.Shape.{Shape}
use Rattle.admission.specs.Triangles.{corners_of_triangle, IsTriangleOnGrid}

-- the front's points, and the new ones after them
abbrev pub all_points : FrontState → List Point → List Point
all_points f made = f.points ++ made

-- all numbers are those of listed points, of which there are n
abbrev pub AreListed : ℕ → List ℕ → Type 0
AreListed n ns = AllByRecursion (IsListed n) ns

-- the place is in the closed box
pub record IsInBounds (b : Bounds) (p : Point) : Type 0 where
  pub right_of_least : b.lo.x ≤ℤ p.x
  pub left_of_greatest : p.x ≤ℤ b.hi.x
  pub above_least : b.lo.y ≤ℤ p.y
  pub below_greatest : p.y ≤ℤ b.hi.y

-- both corners of the box are grid points
pub record IsBoxOnGrid (b : Bounds) : Type 0 where
  pub lo : IsOnGrid b.lo
  pub hi : IsOnGrid b.hi

-- the shape has the element's numbers, and their places
pub record IsShapeOf (points : List Point) (ns : List ℕ) (shape : Shape) : Type 0 where
  pub numbers : ns ≡ shape.i ∷ shape.j ∷ shape.k ∷ []
  pub places : corners_of points ns ≡ corners_of_triangle shape.t
  pub on_grid : IsTriangleOnGrid shape.t

-- the element's number at a position, and the element with the places of its numbers
abbrev pub number_at : List ℕ → ℕ → ℕ
number_at ns i = slice_index_or ns i 0

abbrev pub shape_at : List Point → List ℕ → Shape
shape_at points ns = record {
  i = number_at ns 0;
  j = number_at ns 1;
  k = number_at ns 2;
  t = record {
    a = point_at points (number_at ns 0);
    b = point_at points (number_at ns 1);
    c = point_at points (number_at ns 2);
  };
}

-- the corners are in the box
pub record IsShapeIn (box : Bounds) (shape : Shape) : Type 0 where
  pub a : IsInBounds box shape.t.a
  pub b : IsInBounds box shape.t.b
  pub c : IsInBounds box shape.t.c

-- a line of a state with the places of its ends
abbrev pub drawn : List Point → ℕ × ℕ × ℕ → Line
drawn points line = record {
  number = line.0;
  from = line.1;
  to = line.2;
  a = point_at points line.1;
  b = point_at points line.2;
}

-- whether the line's box meets b
abbrev pub is_close : Bounds → List Point → ℕ × ℕ × ℕ → Bool
is_close b points line = does_meet b (pair_edge points (line.1, line.2))

-- the lines near b, in their order
abbrev pub lines_near : Bounds → List Point → List (ℕ × ℕ × ℕ) → List Line
lines_near b points front = map (drawn points) (filter (is_close b points) front)

-- their numbers, in their order
abbrev pub numbers_near : Bounds → FrontState → List ℕ
numbers_near b f = map (λ line. line.0) (filter (is_close b f.points) f.lines)

-- the line with a number, with the places of its ends, where there is one
abbrev pub drawn_at : FrontState → ℕ → Line
drawn_at f n = option_map_or (λ ends. drawn f.points (n, ends.0, ends.1)) (line_at f.lines n)
    (drawn f.points (n, 0, 0))

-- the lines from the one with a number on, in their order; none where no number is given
abbrev pub from_number : List (ℕ × ℕ × ℕ) → ℕ → List (ℕ × ℕ × ℕ)
from_number [] n = []
from_number (line ∷ lines) n = elim
    (nat_eq line.0 n) [ true ↦ line ∷ lines | false ↦ from_number lines n ]

abbrev pub ahead : List (ℕ × ℕ × ℕ) → Option ℕ → List (ℕ × ℕ × ℕ)
ahead lines None = []
ahead lines (Some n) = from_number lines n

-- the line's number, and those of its ends
abbrev pub numbers_of : Line → ℕ × ℕ × ℕ
numbers_of line = (line.number, line.from, line.to)

-- where a number is given, a line has it
abbrev pub IsThere : List (ℕ × ℕ × ℕ) → Option ℕ → Type 0
IsThere lines None = Unit {0}
IsThere lines (Some n) = is_some (line_at lines n) ≡ true

-- ---- gluing
-- whether the line goes the way of the side
abbrev pub is_along : Line → Line → Bool
is_along side line = nat_eq line.from side.from && nat_eq line.to side.to

-- the side reversed, with a number
abbrev pub turned_round : ℕ → Line → Line
turned_round n side = record { number = n; from = side.to; to = side.from; a = side.b; b = side.a }

-- a side that is one of the lines leaves, any other joins reversed
abbrev pub glue_drawn : List Line → ℕ → Line → List Line
glue_drawn [] next side = turned_round next side ∷ []
glue_drawn (line ∷ lines) next side =
    elim (is_along side line) [ true ↦ lines | false ↦ line ∷ glue_drawn lines next side ]

abbrev pub next_drawn : List Line → ℕ → Line → ℕ
next_drawn lines next side = cond (list_any (is_along side) lines) next (next + 1)

-- the sides of an element, and the lines and the next number after they are glued in order
abbrev pub side_between : ℕ → Point → ℕ → Point → Line
side_between i a j b = record { number = 0; from = i; to = j; a = a; b = b }

abbrev pub glue_shape : List Line → ℕ → Shape → List Line
glue_shape lines next s =
    let ij = side_between s.i s.t.a s.j s.t.b in
    let jk = side_between s.j s.t.b s.k s.t.c in
    let ki = side_between s.k s.t.c s.i s.t.a in
    let first = glue_drawn lines next ij in
    let second = glue_drawn first (next_drawn lines next ij) jk in
    glue_drawn second (next_drawn first (next_drawn lines next ij) jk) ki

abbrev pub next_shape : List Line → ℕ → Shape → ℕ
next_shape lines next s =
    let ij = side_between s.i s.t.a s.j s.t.b in
    let jk = side_between s.j s.t.b s.k s.t.c in
    let ki = side_between s.k s.t.c s.i s.t.a in
    let first = glue_drawn lines next ij in
    let second = glue_drawn first (next_drawn lines next ij) jk in
    next_drawn second (next_drawn first (next_drawn lines next ij) jk) ki
