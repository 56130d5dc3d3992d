-- Each side of a fork has fewer entries than the fork.
use Rattle.std.specs.Prelude.{◌≤◌, max, length}
use Rattle.std.proofs.Common.{arith, length-append}
use Rattle.grid_geom.specs.declared.Bounds.{Bounds}
use Rattle.digital_tree.specs.declared.part.Below.{Below}
use Rattle.digital_tree.specs.declared.part.Below.TheVariants.{Nothing, One, Two}
use Rattle.digital_tree.specs.declared.part.Part.TheDeep.{deep-Below}
use Rattle.digital_tree.specs.Part.{entries_in, IsSound}

pub depth_le-length : {V : Type 0} (b : Bounds) (below : Below V) → IsSound b below
    → max (deep-Below V below) 0 ≤ length (entries_in b below)
depth_le-length b Nothing h = omega arith
depth_le-length b (One key value) h = omega arith
depth_le-length b (Two f) h = omega
    (arith, length-append f.value.low f.value.high, h.some_low, h.some_high)
