-- The boxes of a front's lines, as entries of a tree: the value of an entry is the number of its line.
use Rattle.std.specs.Prelude.{◌≡◌, ℕ, Bool, nat_eq, cond, List, filter, length, Option, Some, is_some}
use Rattle.std.specs.Int.{int_max, int_min}
use Rattle.std.specs.Option.{option_map}
use Rattle.std.specs.List.{AllByRecursion}
use Rattle.grid_geom.specs.declared.Point.{Point}
use Rattle.grid_geom.specs.declared.Bounds.{Bounds}
use Rattle.grid_geom.specs.declared.Edge.{Edge}
use Rattle.state_law.specs.State.{pair_edge}
use Rattle.digital_tree.specs.declared.Key.{Key}
use Rattle.digital_tree.specs.declared.Entry.{Entry}
use Rattle.digital_tree.specs.Entries.{AreDifferent, IsInserted}

-- the least box around an edge's ends
abbrev pub box_of : Edge → Bounds
box_of e = record {
  lo = record { x = int_min e.a.x e.b.x; y = int_min e.a.y e.b.y };
  hi = record { x = int_max e.a.x e.b.x; y = int_max e.a.y e.b.y };
}

-- the number of an entry's line
abbrev pub line_of : Entry ℕ → ℕ
line_of e = e.value

-- the entry is that of the line with this number
abbrev pub has_line : ℕ → Entry ℕ → Bool
has_line n e = nat_eq n e.value

-- the new entries are the old ones and one more, of the line with number n and with the box b
pub record IsEntered (n : ℕ) (b : Bounds) (old new : List (Entry ℕ)) : Type 0 where
  pub key : Key
  pub put : IsInserted (record { key = key; bounds = b; value = n }) old new

-- the new entries are the old ones but that of the line with number n
pub record IsLeft (n : ℕ) (old new : List (Entry ℕ)) : Type 0 where
  pub entry : Entry ℕ
  pub line : line_of entry ≡ n
  pub gone : IsInserted entry new old

-- each number that is there has one entry, and no other number has one
pub record HaveOneEach (there : ℕ → Bool) (es : List (Entry ℕ)) : Type 0 where
  pub count : (n : ℕ) → length (filter (has_line n) es) ≡ cond (there n) 1 0

-- no two entries have one key, and each line's number stands for its entry's key
pub record AreKeyed (key : ℕ → Option Key) (es : List (Entry ℕ)) : Type 0 where
  pub different : AreDifferent es
  pub single : HaveOneEach (λ n. is_some (key n)) es
  pub found : AllByRecursion (λ e. key (line_of e) ≡ Some e.key) es

-- each line has one entry, and the entry has the line's box
pub record AreBoxed (points : List Point) (ends : ℕ → Option (ℕ × ℕ)) (es : List (Entry ℕ)) : Type 0 where
  pub single : HaveOneEach (λ n. is_some (ends n)) es
  pub boxed : AllByRecursion (λ e. option_map (λ line. box_of (pair_edge points line)) (ends (line_of e)) ≡ Some e.bounds) es
