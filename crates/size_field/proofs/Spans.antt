-- Numbers and spans of numbers on the grid: the number of a span that is nearest to another one, and spans made larger.
use lib.IntN.{ℤ, ◌-ℤ◌}
use lib.Signed.{◌≤ℤ◌}
use mathlib.Core.Path.{◌≡◌, ap, ◌∙◌}
use native.Mathlib.Omega.{arith}
use Rattle.std.specs.Prelude.{◌≤◌}
use Rattle.std.specs.Int.{int_max, int_min}
use Rattle.std.specs.Int.RustNames.{unsigned_abs}
use Rattle.std.proofs.lemmas.Int.{ints, clamps, to_z-of_z}
use mir.Val.{SFits, to_z, of_z}
use mir.Syntax.{w64}
use Rattle.grid_geom.specs.declared.TheConstants.{GRID}
use Rattle.grid_geom.specs.Bounds.{IsWithin}

pub fits : (z : ℤ) → IsWithin GRID z → SFits w64 z
fits z h = omega (arith, ints)

-- the least and the greatest of two numbers of the grid
pub least_within : (u w : ℤ) → IsWithin GRID u → IsWithin GRID w → IsWithin GRID (int_min u w)
least_within u w hu hw = record { least = omega (arith, ints, clamps); greatest = omega (arith, ints, clamps) }

pub most_within : (u w : ℤ) → IsWithin GRID u → IsWithin GRID w → IsWithin GRID (int_max u w)
most_within u w hu hw = record { least = omega (arith, ints, clamps); greatest = omega (arith, ints, clamps) }

-- the code's least and greatest, with the casts gone
pub least_is : (u w r : ℤ) → IsWithin GRID u → IsWithin GRID w → r ≡ int_min (to_z w64 (of_z w64 u)) (to_z w64 (of_z w64 w)) → to_z w64 (of_z w64 r) ≡ int_min u w
least_is u w r hu hw e =
    let fu : SFits w64 u = fits u hu in let fw : SFits w64 w = fits w hw in let fr : SFits w64 (int_min u w) = fits (int_min u w) (least_within u w hu hw) in
    ap (λ (z : ℤ). to_z w64 (of_z w64 z)) (simp to_z-of_z at e) ∙ to_z-of_z w64 (int_min u w) fr

pub most_is : (u w r : ℤ) → IsWithin GRID u → IsWithin GRID w → r ≡ int_max (to_z w64 (of_z w64 u)) (to_z w64 (of_z w64 w)) → to_z w64 (of_z w64 r) ≡ int_max u w
most_is u w r hu hw e =
    let fu : SFits w64 u = fits u hu in let fw : SFits w64 w = fits w hw in let fr : SFits w64 (int_max u w) = fits (int_max u w) (most_within u w hu hw) in
    ap (λ (z : ℤ). to_z w64 (of_z w64 z)) (simp to_z-of_z at e) ∙ to_z-of_z w64 (int_max u w) fr

-- the number of the span from lo to hi that is nearest to z
abbrev pub near : ℤ → ℤ → ℤ → ℤ
near lo hi z = int_min (int_max z lo) hi

pub near_within : (lo hi z : ℤ) → IsWithin GRID lo → IsWithin GRID hi → IsWithin GRID z → IsWithin GRID (near lo hi z)
near_within lo hi z hl hh hz = least_within (int_max z lo) hi (most_within z lo hz hl) hh

pub near_is : (lo hi z m r : ℤ) → IsWithin GRID lo → IsWithin GRID hi → IsWithin GRID z → m ≡ int_max (to_z w64 (of_z w64 z)) (to_z w64 (of_z w64 lo)) → r ≡ int_min (to_z w64 (of_z w64 m)) (to_z w64 (of_z w64 hi)) → to_z w64 (of_z w64 r) ≡ near lo hi z
near_is lo hi z m r hl hh hz e f =
    let back : to_z w64 (of_z w64 m) ≡ int_max z lo = most_is z lo m hz hl e in
    let fh : SFits w64 hi = fits hi hh in let fr : SFits w64 (near lo hi z) = fits (near lo hi z) (near_within lo hi z hl hh hz) in
    ap (λ (y : ℤ). to_z w64 (of_z w64 y)) (simp (to_z-of_z, back) at f) ∙ to_z-of_z w64 (near lo hi z) fr

pub near_least : (lo hi z y : ℤ) → lo ≤ℤ y → y ≤ℤ hi → unsigned_abs (z -ℤ near lo hi z) ≤ unsigned_abs (z -ℤ y)
near_least lo hi z y l g = omega (arith, ints, clamps)
