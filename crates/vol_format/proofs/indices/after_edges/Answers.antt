use Rattle.std.proofs.Common.{drop, arith}
use Rattle.std.proofs.lemmas.List.{length-drop}
use Rattle.vol_format.proofs.Walked.{edges_long}
use Rattle.vol_format.proofs.indices.after_edges.Goals as goal

pub after_edge-requires : goal.after_edge-requires
after_edge-requires c =
    let i = c.loop-edge.edge-index in
    omega (arith, c.loop-edge.invariant.1, c.requires, c.loop-edge-test.true, edges_long (drop i c.args.edges.now), length-drop i c.args.edges.now)
