use Rattle.std.proofs.Common.{◌∙◌, ap, slice_index_or, pos, arith}
use Rattle.front_chain.specs.Front.{number_of}
use Rattle.front_chain.proofs.Places.{fresh_number}
use Rattle.front_chain.proofs.opening.list_points.Goals as goal

pub add_point-requires-clause-new_place : goal.add_point-requires-clause-new_place
add_point-requires-clause-new_place c = let p = slice_index_or c.args.points.now c.loop-p.p-index (record { x = pos 0; y = pos 0 }) in
    ap (λ ps. number_of ps p) c.loop-p.invariant.0 ∙ fresh_number c.loop-p.p-index c.args.points.now (record { x = pos 0; y = pos 0 }) c.requires.different (omega (arith, c.loop-p-test.true))
