-- Lists of entries: which has a key, which meet a box, and how one changes.
use Rattle.std.specs.Prelude.{◌≡◌, ℕ, ◌≤◌, Bool, true, false, nat_eq, length, filter, List, [], ◌∷◌, ◌++◌, Option, Some, None, cond}
use Rattle.std.specs.Option.{option_map}
use Rattle.std.specs.List.{AllByRecursion, find, list_any, after_first}
use Rattle.grid_geom.specs.declared.Bounds.{Bounds}
use Rattle.digital_tree.specs.declared.Key.{Key}
use Rattle.digital_tree.specs.declared.Entry.{Entry}
use Rattle.digital_tree.specs.Boxes.{does_meet}

-- what a contract sees of a tree: its entries in the order of the walk, and how many more fit without memory
pub record TreeState (V : Type 0) : Type 0 where
  pub entries : List (Entry V)
  pub spare : ℕ

module _ {V : Type 0} where
  abbrev pub key_of : Entry V → Key
  key_of e = e.key

  -- the entry has this key
  abbrev pub has_key : Key → Entry V → Bool
  has_key k e = nat_eq e.key.slot k.slot

  abbrev pub held : Entry V → Bounds × V
  held e = (e.bounds, e.value)

  -- no two entries have one key
  abbrev pub AreDifferent : List (Entry V) → Type 0
  AreDifferent es = (k : Key) → length (filter (has_key k) es) ≤ 1

  -- the entry's box meets b
  abbrev pub is_hit : Bounds → Entry V → Bool
  is_hit b e = does_meet e.bounds b

  -- the key of the first entry whose box meets b
  abbrev pub first_in_walk : Bounds → List (Entry V) → Option Key
  first_in_walk b es = option_map key_of (find (is_hit b) es)

  -- the key of the first entry after that with key k whose box meets b
  abbrev pub next_in_walk : Bounds → Key → List (Entry V) → Option Key
  next_in_walk b k es = option_map key_of (find (is_hit b) (after_first (has_key k) es))

  -- nothing where the key isn't there; else the key of the first entry after it whose box meets b
  abbrev pub next_in : Bounds → Key → List (Entry V) → Option (Option Key)
  next_in b k [] = None
  next_in b k (e ∷ es) = cond (has_key k e) (Some (first_in_walk b es)) (next_in b k es)

  -- the new list is the old one with the entry put in at some place
  pub record IsInserted (e : Entry V) (old new : List (Entry V)) : Type 0 where
    pub before : List (Entry V)
    pub after : List (Entry V)
    pub was : old ≡ before ++ after
    pub is : new ≡ before ++ e ∷ after

  -- the new list is the old one without an entry that has this key
  pub record IsRemoved (k : Key) (old new : List (Entry V)) : Type 0 where
    pub entry : Entry V
    pub key : entry.key ≡ k
    pub gone : IsInserted entry new old

  -- no entry has this key
  pub record IsAbsent (k : Key) (es : List (Entry V)) : Type 0 where
    pub none : list_any (has_key k) es ≡ false

  -- entries with this key have this box
  pub record IsSpot (k : Key) (b : Bounds) (es : List (Entry V)) : Type 0 where
    pub box : AllByRecursion (λ e. has_key k e ≡ true → e.bounds ≡ b) es
