use Rattle.std.proofs.Common.{◌∙◌, ◌++◌, ◌∷◌, [], ap, slice_index_or, take, arith}
use Rattle.front_chain.specs.Front.{number_between, numbered_from}
use Rattle.front_chain.proofs.Openings.{fresh_line, numbered_step}
use Rattle.front_chain.proofs.opening.join_lines.Goals as goal

pub join-requires-clause-absent : goal.join-requires-clause-absent
join-requires-clause-absent c = let e = slice_index_or c.args.lines.now c.loop-from.from-index (0, 0) in
    ap (λ ls. number_between ls e.0 e.1) c.loop-from.invariant.0 ∙ fresh_line c.args.chain.now.points 1 c.loop-from.from-index c.args.lines.now (0, 0) c.requires.single (omega (arith, c.loop-from-test.true))

pub loop-from-preserved : goal.loop-from-preserved
loop-from-preserved c = let e = slice_index_or c.args.lines.now c.loop-from.from-index (0, 0) in (
  c.join.ensures.lines ∙ ap (λ ls. ls ++ (c.loop-from.chain.next, e.0, e.1) ∷ []) c.loop-from.invariant.0 ∙ ap (λ n. numbered_from 1 (take c.loop-from.from-index c.args.lines.now) ++ (n, e.0, e.1) ∷ []) c.loop-from.invariant.1 ∙ numbered_step c.loop-from.from-index c.args.lines.now (0, 0) (omega (arith, c.loop-from-test.true)),
  omega (arith, c.join.ensures.next, c.loop-from.invariant.1),
  c.join.ensures.points ∙ c.loop-from.invariant.2,
  c.join.ensures.waiting ∙ c.loop-from.invariant.3,
  omega (arith, c.join.ensures.spare_lines, c.loop-from.invariant.4),
)
