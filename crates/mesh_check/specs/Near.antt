-- Points and edges that are kept in trees by their boxes.
--
-- IsInBounds    a place in a closed box
-- HasEntry      one of the entries is of a kind
-- IsPointEntry  the entry of a point: its position, and the box that is its place alone
-- AreKept       the entries of points, among them each before `end` that isn't passed over
-- IsEdgeEntry   the entry of an edge, and a box that holds its ends
-- HasEdge       an edge has an entry
-- IsFreeOf      a place is in no open edge of the entries
use Rattle.std.specs.Prelude.{◌≡◌, ◌⊎◌, ℕ, ◌<◌, Bool, true, List, [], ◌∷◌, length, slice_index_or}
use Rattle.std.specs.List.{AllByRecursion}
use Rattle.grid_geom.specs.declared.Point.{Point}
use Rattle.grid_geom.specs.declared.Edge.{Edge}
use Rattle.grid_geom.specs.declared.Bounds.{Bounds}
use Rattle.grid_geom.specs.Bounds.{IsOnGrid}
use Rattle.grid_geom.specs.Boxes.{DoBoundsMeet}
use Rattle.grid_geom.specs.Sides.{IsOnOpen}
use Rattle.digital_tree.specs.declared.Entry.{Entry}

-- the box of a place alone
abbrev pub box_at : Point → Bounds
box_at p = record { lo = p; hi = p }

-- the place is in the closed box
abbrev pub IsInBounds : Bounds → Point → Type 0
IsInBounds b p = DoBoundsMeet (box_at p) b

-- P holds of one of the entries
abbrev pub HasEntry : {V : Type 0} → (Entry V → Type 0) → List (Entry V) → Type 0
HasEntry P [] = ⊥
HasEntry P (e ∷ es) = P e ⊎ HasEntry P es

-- the entry's box is a place alone, on the grid
pub record IsPlaced (e : Entry ℕ) : Type 0 where
  pub on_grid : IsOnGrid e.bounds.lo
  pub alone : e.bounds.hi ≡ e.bounds.lo

-- the entry is that of a point: its value is the point's position, and its box the point's place
pub record IsPointEntry (points : List Point) (e : Entry ℕ) : Type 0 where
  pub placed : IsPlaced e
  pub in_list : e.value < length points
  pub place : (d : Point) → slice_index_or points e.value d ≡ e.bounds.lo

-- the entries are those of points, among them each before `end` that isn't passed over
pub record AreKept (points : List Point) (passed : List Bool) (end : ℕ) (es : List (Entry ℕ)) : Type 0 where
  pub each : AllByRecursion (IsPointEntry points) es
  pub all : (i : ℕ) → i < end
      → (slice_index_or passed i true ≡ true) ⊎ HasEntry (λ e. e.value ≡ i) es

-- the entry is that of an edge on the grid, and its box holds both ends
pub record IsEdgeEntry (e : Entry Edge) : Type 0 where
  pub start_on : IsOnGrid e.value.a
  pub end_on : IsOnGrid e.value.b
  pub start_in : IsInBounds e.bounds e.value.a
  pub end_in : IsInBounds e.bounds e.value.b

-- the edge has an entry
abbrev pub HasEdge : Edge → List (Entry Edge) → Type 0
HasEdge x es = HasEntry (λ e. e.value ≡ x) es

-- the place is in no open edge of the entries
abbrev pub IsFreeOf : List (Entry Edge) → Point → Type 0
IsFreeOf es p = AllByRecursion (λ e. ¬ IsOnOpen p e.value.a e.value.b) es
