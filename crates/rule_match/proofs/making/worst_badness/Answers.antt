use Rattle.std.proofs.Common.{◌∙◌, sym, subst}
use Rattle.std.specs.List.{All}
use Rattle.grid_geom.specs.Bounds.{IsOnGrid}
use Rattle.rule_match.proofs.NewParts.{area_small, worst_pushed, three_corners}
use Rattle.rule_match.proofs.making.worst_badness.Goals as goal

pub element_badness-requires-clause-area : goal.element_badness-requires-clause-area
element_badness-requires-clause-area c = area_small c.as_slice-in-loop-element.result.now
    (three_corners c.args.places.now c.args.elements.now c.loop-element.element-index c.element-item.result c.as_slice.result.now c.as_slice-in-loop-element.result.now c.requires.three c.loop-element-test.true (sym c.element-item.is) c.as_slice.ensures (c.as_slice-in-loop-element.ensures ∙ c.corners_at-corners.ensures.value))
    (subst (All IsOnGrid) (sym c.as_slice-in-loop-element.ensures) c.corners_at-corners.ensures.on)

pub loop-element-preserved : goal.loop-element-preserved
loop-element-preserved c = worst_pushed c.args.places.now c.args.elements.now c.loop-element.element-index c.element-item.result c.as_slice.result.now c.as_slice-in-loop-element.result.now (record { squares = 0; area = 1 }) c.loop-element.found c.element_badness.result c.worse_of-found.result
    c.loop-element-test.true (sym c.element-item.is) c.as_slice.ensures (c.as_slice-in-loop-element.ensures ∙ c.corners_at-corners.ensures.value) c.loop-element.invariant c.element_badness.ensures c.worse_of-found.ensures
