use Rattle.std.proofs.Common.{◌∙◌, ◌++◌, ◌∷◌, [], ap, slice_index_or, take, arith}
use Rattle.front_chain.specs.Front.{numbered_from}
use Rattle.front_chain.proofs.Openings.{numbered_step}
use Rattle.run_log.proofs.viewing.opening.Goals as goal

pub loop-line-preserved : goal.loop-line-preserved
loop-line-preserved c = let e = slice_index_or c.args.lines.now c.loop-line.line-index (0, 0) in (
  c.in_ok-join.ensures.lines ∙ ap (λ ls. ls ++ (c.loop-line.table.next, e.0, e.1) ∷ []) c.loop-line.invariant.0 ∙ ap (λ n. numbered_from 1 (take c.loop-line.line-index c.args.lines.now) ++ (n, e.0, e.1) ∷ []) c.loop-line.invariant.1 ∙ numbered_step c.loop-line.line-index c.args.lines.now (0, 0) (omega (arith, c.loop-line-test.true)),
  omega (arith, c.in_ok-join.ensures.next, c.loop-line.invariant.1),
)
