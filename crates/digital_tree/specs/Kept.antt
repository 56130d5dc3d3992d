-- What a tree keeps beside its entries: what is held under each key.
use Rattle.std.specs.Prelude.{◌≡◌, List, map, filter}
use Rattle.std.specs.Option.{option_to_list}
use Rattle.slab.specs.Slab.{Slab, get}
use Rattle.grid_geom.specs.declared.Bounds.{Bounds}
use Rattle.digital_tree.specs.declared.Key.{Key}
use Rattle.digital_tree.specs.declared.Entry.{Entry}
use Rattle.digital_tree.specs.Entries.{has_key, held}

-- under each key the slab holds what the one entry with that key holds, and nothing where there is none
pub record AreKept {V : Type 0} (es : List (Entry V)) (kept : Slab (Bounds × V)) : Type 0 where
  pub same : (k : Key) → map held (filter (has_key k) es) ≡ option_to_list (get kept k.slot)
