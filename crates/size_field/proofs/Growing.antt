-- Sizes grow with the distance.
use Rattle.std.proofs.Common.{ℕ, ◌*◌, ◌/◌, ◌≤◌, List, [], ◌∷◌, arith}
use Rattle.std.proofs.Math.Nat.{mul-le-mul_left}
use Rattle.std.specs.List.{AllByRecursion}
use Rattle.grid_geom.specs.declared.Point.{Point}
use Rattle.grid_geom.specs.declared.Bounds.{Bounds}
use Rattle.geom_check.specs.declared.kinds.Source.{Source}
use Rattle.size_field.specs.declared.TheConstants.{GRADING_UNIT}
use Rattle.size_field.specs.Size.{reach, size_from}
use Rattle.size_field.specs.Boxes.{IsInBounds, IsHeldBy}

pub growing : (g a b : ℕ) → a ≤ b → g * a / GRADING_UNIT ≤ g * b / GRADING_UNIT
growing g a b h = let m : g * a ≤ g * b = mul-le-mul_left g h in grind arith

-- a source of the least size, at the nearest point of a box, leaves no more than any source that the box holds
pub bounded : (g : ℕ) (q near : Point) (b : Bounds) (least : ℕ) (s : Source) → ((p : Point) → IsInBounds b p → reach q near ≤ reach q p) → IsHeldBy b least s → size_from g q (record { at = near; h = least }) ≤ size_from g q s
bounded g q near b least s h held = let further = growing g (reach q near) (reach q s.at) (h s.at held.place) in omega (arith, further, held.size)

pub all_bounded : (g : ℕ) (q near : Point) (b : Bounds) (least n : ℕ) (ss : List Source) → ((p : Point) → IsInBounds b p → reach q near ≤ reach q p) → n ≤ size_from g q (record { at = near; h = least }) →
    AllByRecursion (IsHeldBy b least) ss → AllByRecursion (λ s. n ≤ size_from g q s) ss
all_bounded g q near b least n [] h small held = tt
all_bounded g q near b least n (s ∷ ss) h small held = (let more = bounded g q near b least s h held.0 in omega (arith, small, more), all_bounded g q near b least n ss h small held.1)
