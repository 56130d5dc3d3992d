-- A walk over the entries whose boxes meet a box.
use Rattle.std.specs.Prelude.{◌≡◌, List, [], ◌∷◌, map, filter, Option, Some, None}
use Rattle.grid_geom.specs.declared.Bounds.{Bounds}
use Rattle.digital_tree.specs.declared.Key.{Key}
use Rattle.digital_tree.specs.declared.Entry.{Entry}
use Rattle.digital_tree.specs.Entries.{key_of, is_hit, next_in_walk}

module _ {V : Type 0} where
  -- where the walk stands at `next`, it meets these keys one after another, and then ends
  abbrev pub IsWalkFrom : Bounds → List (Entry V) → Option Key → List Key → Type 0
  IsWalkFrom b es next [] = next ≡ None
  IsWalkFrom b es next (k ∷ ks) = (next ≡ Some k) × IsWalkFrom b es (next_in_walk b k es) ks

  -- the keys of the entries whose boxes meet b, in order
  abbrev pub hit_keys : Bounds → List (Entry V) → List Key
  hit_keys b es = map key_of (filter (is_hit b) es)
