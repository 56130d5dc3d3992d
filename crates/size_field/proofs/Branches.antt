-- What is known of the sources of a tree once it is a branch, and their least size.
use Rattle.std.proofs.Common.{◌≡◌, ℕ, ◌≤◌, min, List, Option, Some, Box, sym, ap, ◌∙◌, subst}
use Rattle.std.specs.declared.alloc.Global.{Global}
use Rattle.grid_geom.specs.declared.Point.{Point}
use Rattle.geom_check.specs.declared.kinds.Source.{Source}
use Rattle.size_field.specs.declared.tree.Branch.{Branch}
use Rattle.size_field.specs.Size.{reach, least_size, size_from}
use Rattle.size_field.specs.Boxes.{IsInBounds}
use Rattle.size_field.specs.Tree.{sources_in, sources_of, IsSound, IsSoundBranch}
use Rattle.size_field.proofs.LeastSizes.{least_append, least_swap, least_passed}
use Rattle.size_field.proofs.Growing.{all_bounded}

pub record IsBranch (d : List Source) (b : Branch) : Type 0 where
  pub is : d ≡ sources_of b
  pub sound : IsSoundBranch b

pub at_branch : {root : Option (Box Branch Global)} {d : List Source} {b : Box Branch Global} → sources_in root ≡ d → IsSound root → root ≡ Some b → IsBranch d b.value
at_branch {root} {d} {b} view_is sound is = record { is = sym view_is ∙ ap sources_in is; sound = subst IsSound is sound }

-- a branch may be passed over where a source of its least size at the nearest point of its box would leave no less than what was found
pub passed : {d : List Source} {b : Branch} (g : ℕ) (q near : Point) (n : ℕ) → IsBranch d b → ((p : Point) → IsInBounds b.bounds p → reach q near ≤ reach q p) → n ≤ size_from g q (record { at = near; h = b.least }) → n ≡ least_size g q n d
passed {d} {b} g q near n branch nearest small =
    rw branch.is (sym (least_passed g q n (sources_of b) (all_bounded g q near b.bounds b.least n (sources_of b) nearest small branch.sound.held)))

-- its own source, and then one side after the other
pub low_first : {d : List Source} {b : Branch} (g : ℕ) (q : Point) (n : ℕ) → IsBranch d b → least_size g q (least_size g q (min n (size_from g q b.here)) b.low) b.high ≡ least_size g q n d
low_first {d} {b} g q n branch = rw branch.is (sym (least_append g q (min n (size_from g q b.here)) b.low b.high))

pub high_first : {d : List Source} {b : Branch} (g : ℕ) (q : Point) (n : ℕ) → IsBranch d b → least_size g q (least_size g q (min n (size_from g q b.here)) b.high) b.low ≡ least_size g q n d
high_first {d} {b} g q n branch = least_swap g q (min n (size_from g q b.here)) b.high b.low ∙ low_first g q n branch
