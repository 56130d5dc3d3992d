use Rattle.std.proofs.Common.{◌≡◌, ◌+◌, length, drop}
use Rattle.std.specs.List.{flat_map}
use Rattle.vol_format.specs.Text.{edge_items}
use Rattle.vol_format.specs.Reading.{walked}
use Rattle.vol_format.proofs.indices.after_edges.Given as goal

abbrev pub invariant-loop-edge : goal.invariant-loop-edge
invariant-loop-edge l =
    let left = flat_map edge_items (drop l.edge-index l.edges) in
    (walked l.points l.at left ≡ walked l.points l.from (flat_map edge_items l.edges)) × (l.at + length left ≡ l.from + length (flat_map edge_items l.edges))
