-- An element as a triangle of places, front lines with the places of their ends, and how a line or a place hinders the element.
use Rattle.std.specs.Prelude.{◌≡◌, ◌⊎◌, ℕ, ◌≤◌, ◌∷◌, [], List, Option, Some, None, min}
use Rattle.grid_geom.specs.declared.Point.{Point}
use Rattle.grid_geom.specs.declared.Edge.{Edge}
use Rattle.grid_geom.specs.Bounds.{IsOnGrid}
use Rattle.grid_geom.specs.Sides.{IsOnOpen}
use Rattle.grid_geom.specs.Polygon.{sides, IsApart}
use Rattle.grid_geom.specs.Closed.{IsEdge}
use Rattle.wind_law.specs.Chains.{edge, back}
use Rattle.admission.specs.declared.triangle.Triangle.{Triangle}
use Rattle.admission.specs.declared.triangle.Line.{Line}
use Rattle.admission.specs.declared.lines.Hindrances.{Hindrances}

-- the corners in their order
abbrev pub corners_of_triangle : Triangle → List Point
corners_of_triangle t = t.a ∷ t.b ∷ t.c ∷ []

-- the three corners are grid points
pub record IsTriangleOnGrid (t : Triangle) : Type 0 where
  pub a : IsOnGrid t.a
  pub b : IsOnGrid t.b
  pub c : IsOnGrid t.c

-- the line as an edge
abbrev pub line_edge : Line → Edge
line_edge line = edge line.a line.b

-- the line joins two different grid points
pub record IsLineOnGrid (line : Line) : Type 0 where
  pub a : IsOnGrid line.a
  pub b : IsOnGrid line.b
  pub different : IsEdge (line_edge line)

-- P holds of an item of the list
abbrev pub SomeOf : {A : Type 0} → (A → Type 0) → List A → Type 0
SomeOf P [] = ⊥
SomeOf P (x ∷ xs) = P x ⊎ SomeOf P xs

-- ---- how a line or a place hinders an element, by its corners
-- the line is not apart from the open element
abbrev pub IsMet : List Point → Edge → Type 0
IsMet corners e = ¬ (IsApart e.a e.b corners)

-- the place is in an open side
abbrev pub IsOnSide : List Point → Point → Type 0
IsOnSide corners p = SomeOf (λ s. IsOnOpen p s.a s.b) (sides corners)

-- a corner is in the open line
abbrev pub IsCornerOn : List Point → Edge → Type 0
IsCornerOn corners e = SomeOf (λ c. IsOnOpen c e.a e.b) corners

-- the line is a side reversed
abbrev pub IsBackwards : List Point → Edge → Type 0
IsBackwards corners e = SomeOf (λ s. e ≡ back s) (sides corners)

-- the line is a side
abbrev pub IsSideOf : List Point → Edge → Type 0
IsSideOf corners e = SomeOf (λ s. s ≡ e) (sides corners)

-- ---- numbers of lines and of their ends
-- n is the number of the line, and P holds of it
abbrev pub IsLine : (Edge → Type 0) → Line → ℕ → Type 0
IsLine P line n = P (line_edge line) × (line.number ≡ n)

-- n is the number of an end of the line, and P holds of its place
abbrev pub IsEnd : (Point → Type 0) → Line → ℕ → Type 0
IsEnd P line n = (P line.a × (line.from ≡ n)) ⊎ (P line.b × (line.to ≡ n))

-- a line of the list stands in the relation to n
abbrev pub HasSome : (Line → ℕ → Type 0) → List Line → ℕ → Type 0
HasSome R lines n = SomeOf (λ line. R line n) lines

-- n is the least number with P
pub record IsLeast (P : ℕ → Type 0) (n : ℕ) : Type 0 where
  pub holds : P n
  pub least : (m : ℕ) → P m → n ≤ m

-- the least number with P, or nothing where no number has it
abbrev pub IsLeastOrNone : (ℕ → Type 0) → Option ℕ → Type 0
IsLeastOrNone P None = (m : ℕ) → ¬ (P m)
IsLeastOrNone P (Some n) = IsLeast P n

-- the lesser of two numbers, where they are there
abbrev pub lesser_of : Option ℕ → Option ℕ → Option ℕ
lesser_of None y = y
lesser_of (Some x) None = Some x
lesser_of (Some x) (Some y) = Some (min x y)

-- the least numbers of lines that hinder the element in each way, of a line's end in an open side, and of a line that is a side
pub record AreLeast (corners : List Point) (has : (Line → ℕ → Type 0) → ℕ → Type 0) (h : Hindrances) : Type 0 where
  pub met : IsLeastOrNone (has (IsLine (IsMet corners))) h.met
  pub on_side : IsLeastOrNone (has (IsEnd (IsOnSide corners))) h.on_side
  pub corner_on : IsLeastOrNone (has (IsLine (IsCornerOn corners))) h.corner_on
  pub backwards : IsLeastOrNone (has (IsLine (IsBackwards corners))) h.backwards
  pub side : IsLeastOrNone (has (IsLine (IsSideOf corners))) h.side

-- for each way the lesser number
abbrev pub lesser_ways : Hindrances → Hindrances → Hindrances
lesser_ways g h = record {
  met = lesser_of g.met h.met;
  on_side = lesser_of g.on_side h.on_side;
  corner_on = lesser_of g.corner_on h.corner_on;
  backwards = lesser_of g.backwards h.backwards;
  side = lesser_of g.side h.side;
}
