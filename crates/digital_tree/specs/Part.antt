-- A part of a tree: its entries, and what is true of it.
use Rattle.std.specs.Prelude.{◌≤◌, List, [], ◌∷◌, ◌++◌, length}
use Rattle.std.specs.List.{AllByRecursion}
use Rattle.grid_geom.specs.declared.Bounds.{Bounds}
use Rattle.digital_tree.specs.declared.Entry.{Entry}
use Rattle.digital_tree.specs.declared.part.Fork.{Fork}
use Rattle.digital_tree.specs.declared.part.Below.{Below}
use Rattle.digital_tree.specs.declared.part.Below.TheVariants.{Nothing, One, Two}
use Rattle.digital_tree.specs.Boxes.{IsWithin}

module _ {V : Type 0} where
  abbrev pub entries_in : Bounds → Below V → List (Entry V)
  entries_in b Nothing = []
  entries_in b (One key value) = record { key = key; bounds = b; value = value } ∷ []
  entries_in b (Two fork) = fork.value.low ++ fork.value.high

  -- the entries' boxes lie in b
  abbrev pub AreWithin : Bounds → List (Entry V) → Type 0
  AreWithin b es = AllByRecursion (λ e. IsWithin e.bounds b) es

  -- both sides have entries, whose boxes lie in b
  pub record IsSoundFork (b : Bounds) (f : Fork V) : Type 0 where
    pub low : AreWithin b f.low
    pub high : AreWithin b f.high
    pub some_low : 1 ≤ length f.low
    pub some_high : 1 ≤ length f.high

  abbrev pub IsSound : Bounds → Below V → Type 0
  IsSound b Nothing = Unit {0}
  IsSound b (One key value) = Unit {0}
  IsSound b (Two fork) = IsSoundFork b fork.value
