-- A tree of sources: each branch has a source of its own, and knows a box and a least size of all its sources.
--
-- sources_in   the sources of a tree
-- IsSound      each branch's box holds its sources, and none has a size below its least
-- IsAdded      what adding a source to a tree leaves
use Rattle.std.specs.Prelude.{◌≡◌, ℕ, Option, Some, None, List, [], ◌∷◌, ◌++◌}
use Rattle.std.specs.List.{AllByRecursion}
use Rattle.std.specs.Prelude.{Box}
use Rattle.std.specs.declared.alloc.Global.{Global}
use Rattle.grid_geom.specs.declared.Point.{Point}
use Rattle.grid_geom.specs.declared.Bounds.{Bounds}
use Rattle.geom_check.specs.declared.kinds.Source.{Source}
use Rattle.size_field.specs.declared.tree.Branch.{Branch}
use Rattle.size_field.specs.Size.{least_size}
use Rattle.size_field.specs.Boxes.{IsBoxOnGrid, IsHeldBy}

-- the branch's own source, and those of its two sides
abbrev pub sources_of : Branch → List Source
sources_of b = b.here ∷ b.low ++ b.high

abbrev pub sources_in : Option (Box Branch Global) → List Source
sources_in None = []
sources_in (Some b) = sources_of b.value

-- the branch's box holds its sources, and none has a size below its least
pub record IsSoundBranch (b : Branch) : Type 0 where
  pub on_grid : IsBoxOnGrid b.bounds
  pub held : AllByRecursion (IsHeldBy b.bounds b.least) (sources_of b)

abbrev pub IsSound : Option (Box Branch Global) → Type 0
IsSound None = Unit {0}
IsSound (Some b) = IsSoundBranch b.value

-- the new sources leave the same least sizes as the old ones and s, whatever the point, the grading and the greatest size;
-- and a box and a least size that hold the old ones and s hold the new ones
pub record IsAdded (s : Source) (old new : List Source) : Type 0 where
  pub alike : (grading : ℕ) (q : Point) (greatest : ℕ)
      → least_size grading q greatest new ≡ least_size grading q greatest (s ∷ old)
  pub held : (b : Bounds) (least : ℕ) → AllByRecursion (IsHeldBy b least) (s ∷ old)
      → AllByRecursion (IsHeldBy b least) new
