use Rattle.std.proofs.Common.{◌≡◌, ◌+◌, ◌≤◌, drop}
use Rattle.grid_geom.specs.Closed.{leaving, arriving}
use Rattle.geom_check.proofs.boundaries.is_balanced.Given as goal

abbrev pub invariant-loop-edge : goal.invariant-loop-edge
invariant-loop-edge l =
    (l.departures + leaving l.at (drop l.edge-index l.edges) ≡ leaving l.at l.edges) × (l.departures ≤ l.edge-index)
    × (l.arrivals + arriving l.at (drop l.edge-index l.edges) ≡ arriving l.at l.edges) × (l.arrivals ≤ l.edge-index)
