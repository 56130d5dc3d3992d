use lib.IntN.{◌+ℤ◌}
use mir.Val.{Fits, SFits, to_z}
use mir.Syntax.{w64, w128}
use Rattle.std.proofs.Common.{length, arith, rules}
use Rattle.std.proofs.lemmas.Int.{to_z-of_z}
use Rattle.front_chain.proofs.Openings.{area_step, fits_area}
use Rattle.front_chain.proofs.opening.swept_area.Goals as goal

pub loop-place-preserved : goal.loop-place-preserved
loop-place-preserved c =
    let area = to_z w128 c.loop-place.area-bits in
    let step = area_step c.args.points.now c.args.lines.now c.loop-place.place (0, 0) area (omega (arith, c.loop-place-test.true)) c.loop-place.invariant.0 c.loop-place.invariant.1 c.swept-area.result c.swept-area.ensures.value c.swept-area.ensures.small in
    let swept : SFits w128 c.swept-area.result = record { sfits = c.swept-area.type_inv } in
    let long : Fits w64 (length c.args.lines.now) = search rules in
    let fits : SFits w128 (area +ℤ c.swept-area.result) = fits_area (length c.args.lines.now) c.loop-place.place (area +ℤ c.swept-area.result) c.loop-place-test.true long step.1 in
    simp to_z-of_z step
