use Rattle.std.proofs.Common.{◌≡◌, map, take, All}
use Rattle.geom_check.specs.Spans.{IsSpan}
use Rattle.geom_check.proofs.spans.spans_of.Given as goal

abbrev pub invariant-loop-edge : goal.invariant-loop-edge
invariant-loop-edge l = (map (λ s. s.edge) l.spans.items ≡ take l.edge-index l.edges) × All IsSpan l.spans.items
