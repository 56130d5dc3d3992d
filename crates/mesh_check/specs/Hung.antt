-- Points in open sides of one element, in the code.
use Rattle.std.specs.Prelude.{◌≡◌, ℕ, ◌<◌, List, length, slice_index_or}
use Rattle.grid_geom.specs.declared.Point.{Point}
use Rattle.grid_geom.specs.declared.Edge.{Edge}
use Rattle.grid_geom.specs.Sides.{IsOnOpen}
use Rattle.digital_tree.specs.declared.Entry.{Entry}
use Rattle.mesh_check.specs.Near.{HasEntry}
use Rattle.mesh_check.specs.Whole.{IsInOpenSide}

-- the point at the position i is in an open side of the list
pub record IsHungIn (points : List Point) (edges : List Edge) (i : ℕ) : Type 0 where
  pub in_list : i < length points
  pub hangs : (p : Point) → IsInOpenSide edges (slice_index_or points i p)

-- the entry's place is in the open side from a to b, and its position is n
pub record IsMetAt (hit : Entry ℕ) (a b : Point) (n : ℕ) : Type 0 where
  pub on : IsOnOpen hit.bounds.lo a b
  pub position : hit.value ≡ n

-- n is the position of an entry whose place is in an open side of the list
pub record IsMetIn (hits : List (Entry ℕ)) (edges : List Edge) (n : ℕ) : Type 0 where
  pub met : HasEntry (λ e. IsInOpenSide edges e.bounds.lo × (e.value ≡ n)) hits
