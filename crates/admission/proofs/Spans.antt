-- The least and the greatest of two numbers of the grid are on it.
use lib.IntN.{ℤ}
use native.Mathlib.Omega.{arith}
use Rattle.std.specs.Int.{int_max, int_min}
use Rattle.std.proofs.lemmas.Int.{ints, clamps}
use Rattle.grid_geom.specs.declared.TheConstants.{GRID}
use Rattle.grid_geom.specs.Bounds.{IsWithin}

pub least_within : (u w : ℤ) → IsWithin GRID u → IsWithin GRID w → IsWithin GRID (int_min u w)
least_within u w hu hw = record { least = omega (arith, ints, clamps); greatest = omega (arith, ints, clamps) }

pub most_within : (u w : ℤ) → IsWithin GRID u → IsWithin GRID w → IsWithin GRID (int_max u w)
most_within u w hu hw = record { least = omega (arith, ints, clamps); greatest = omega (arith, ints, clamps) }
