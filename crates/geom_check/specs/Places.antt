-- Places of the grid by one number.
use Rattle.std.specs.Prelude.{ℕ, ◌+◌, ◌*◌, unsigned_abs, ◌+ℤ◌}
use Rattle.grid_geom.specs.declared.Point.{Point}
use Rattle.grid_geom.specs.declared.TheConstants.{GRID}
use Rattle.geom_check.specs.declared.limits.TheConstants.{WIDTH}

-- the number of a place, column by column from the left and upwards in each
abbrev pub key_of : Point → ℕ
key_of p = unsigned_abs (p.x +ℤ GRID) * (WIDTH + 1) + unsigned_abs (p.y +ℤ GRID)
