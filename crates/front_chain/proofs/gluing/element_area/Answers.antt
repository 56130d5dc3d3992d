use Rattle.std.proofs.Common.{◌≡◌, ◌∙◌, sym, ap, subst, arith, length, take}
use Rattle.std.specs.List.{All}
use Rattle.std.proofs.lemmas.List.{length-set, take_all}
use Rattle.grid_geom.specs.Bounds.{IsOnGrid}
use Rattle.state_law.specs.State.{corners_of}
use Rattle.front_chain.proofs.Kept.{corners_on, corner_step}
use Rattle.front_chain.proofs.gluing.element_area.Goals as goal

pub loop-place-preserved : goal.loop-place-preserved
loop-place-preserved c = (
  corner_step c.args.chain.now.points c.loop-place.places c.args.corners.now c.loop-place.place c.point.result c.loop-place-test.true (omega (arith, c.loop-place-test.true, c.requires.few, c.loop-place.invariant.1)) c.loop-place.invariant.0 c.point.ensures,
  length-set c.loop-place.places c.loop-place.place c.point.result ∙ c.loop-place.invariant.1,
)

pub double_area-requires-clause-corners_on : goal.double_area-requires-clause-corners_on
double_area-requires-clause-corners_on c =
    let at : c.loop-place.place ≡ length c.args.corners.now = omega (arith, c.loop-place-test.false, c.loop-place.auto.place-end) in
    subst (All IsOnGrid) (sym (subst (λ n. take n c.loop-place.places ≡ corners_of c.args.chain.now.points (take n c.args.corners.now)) at c.loop-place.invariant.0 ∙ ap (corners_of c.args.chain.now.points) (take_all (length c.args.corners.now) c.args.corners.now (omega arith))))
    (corners_on c.args.chain.now.points c.args.corners.now c.requires.on_grid c.requires.listed)
