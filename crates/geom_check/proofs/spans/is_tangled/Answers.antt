use Rattle.std.proofs.Common.{◌∙◌, ◌<◌, sym, arith}
use Rattle.geom_check.proofs.Untangled.{free_from, free_next}
use Rattle.geom_check.proofs.spans.is_tangled.Goals as goal

pub returns-then-begins_beyond : goal.returns-then-begins_beyond
returns-then-begins_beyond c = λ e. free_from c.args.spans.now c.args.i c.loop-j.j _ _ c.requires.spans c.requires.sorted c.loop-j.invariant.0 (omega arith) (sym c.begins_beyond.ensures ∙ c.if-begins_beyond.true) c.loop-j.invariant.1

pub loop-j-preserved : goal.loop-j-preserved
loop-j-preserved c =
    let h : c.args.i < c.loop-j.j = c.loop-j.invariant.0 in
    (omega arith, free_next c.args.spans.now c.args.i c.loop-j.j _ _ c.do_tangle.result h (omega arith) c.do_tangle.ensures c.if-do_tangle.false c.loop-j.invariant.1)
