use Rattle.std.proofs.Common.{◌≡◌, ◌≤ℤ◌, pos, ◌+ℤ◌, drop}
use lib.IntN.{neg_ℤ}
use Rattle.grid_geom.specs.Winding.{wind}
use Rattle.wind_law.proofs.crossings.winding.Given as goal

abbrev pub invariant-loop-edge : goal.invariant-loop-edge
invariant-loop-edge l = (l.sum +ℤ wind l.q (drop l.edge-index l.edges) ≡ wind l.q l.edges) × (neg_ℤ (pos l.edge-index) ≤ℤ l.sum) × (l.sum ≤ℤ pos l.edge-index)
