-- How often an edge stands in a list, less its reverse.
use lib.IntN.{ℤ, pos, ◌-ℤ◌}
use mathlib.Core.List.{List}
use Rattle.grid_geom.specs.declared.Edge.{Edge}
use Rattle.wind_law.specs.Chains.{back, times}

abbrev pub net : Edge → List Edge → ℤ
net x es = pos (times x es) -ℤ pos (times (back x) es)
