use Rattle.std.proofs.Common.{◌∙◌, ap, slice_index_or, pos, arith}
use Rattle.grid_geom.specs.declared.Point.{Point}
use Rattle.front_chain.specs.Front.{number_of}
use Rattle.mesh_run.proofs.Put.{new_place}
use Rattle.mesh_run.proofs.applying.list_points.Goals as goal

pub add_point-requires-clause-new_place : goal.add_point-requires-clause-new_place
add_point-requires-clause-new_place c =
    let d : Point = record { x = pos 0; y = pos 0 } in let p = slice_index_or c.args.made.now c.loop-point.point-index d in
    ap (λ points. number_of points p) c.loop-point.invariant.points ∙ new_place c.args.front.now.points c.args.made.now c.loop-point.point-index d c.requires.new_places (omega (arith, c.loop-point-test.true))
