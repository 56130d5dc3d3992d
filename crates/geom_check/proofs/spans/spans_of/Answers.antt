use Rattle.std.proofs.Common.{arith}
use Rattle.geom_check.proofs.Untangled.{spans_more}
use Rattle.geom_check.proofs.spans.spans_of.Goals as goal

pub loop-edge-preserved : goal.loop-edge-preserved
loop-edge-preserved c = spans_more c.args.edges.now c.loop-edge.edge-index _ c.loop-edge.spans.items c.push.new.self.items c.span_of.result (omega arith) c.loop-edge.invariant c.span_of.ensures.edge c.span_of.ensures.span c.in_ok-push.ensures.items
