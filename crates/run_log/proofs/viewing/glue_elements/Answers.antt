use Rattle.std.proofs.Common.{◌≡◌, ap, ◌∙◌, arith}
use Rattle.state_law.specs.State.{number_sides, glue_lines, next_after_all}
use Rattle.run_log.proofs.Sides.{glued_step}
use Rattle.run_log.proofs.viewing.glue_elements.Goals as goal

pub loop-element-preserved : goal.loop-element-preserved
loop-element-preserved c =
    let st = c.loop-element.table in
    let item : c.as_slice.result.now ≡ _ = c.as_slice.ensures ∙ c.element-item.is in
    let step = glued_step number_sides c.args.elements.now c.loop-element.element-index c.element-item.result c.args.table.now.lines c.args.table.now.next st.lines st.next c.glue_element.new.table.lines c.glue_element.new.table.next (omega (arith, c.loop-element-test.true))
    (record { lines_are = c.loop-element.invariant.0; next_is = c.loop-element.invariant.1 })
    (record {
      lines_are = c.in_ok-glue_element.ensures.lines ∙ ap (λ ns. glue_lines st.lines st.next (number_sides ns)) item;
      next_is = c.in_ok-glue_element.ensures.next ∙ ap (λ ns. next_after_all st.lines st.next (number_sides ns)) item;
    }) in
    (step.lines_are, step.next_is)
