use Rattle.std.proofs.Common.{◌<◌, ap, ◌∙◌, length, arith}
use Rattle.std.specs.List.{flat_map}
use Rattle.state_law.specs.State.{number_sides, glue_lines, next_after_all}
use Rattle.run_log.proofs.Sides.{glued_step, count_step}
use Rattle.run_log.proofs.viewing.glue_applications.Goals as goal

pub loop-application-preserved : goal.loop-application-preserved
loop-application-preserved c =
    let st = c.loop-application.table in
    let k = c.loop-application.application-index in
    let x = c.application-item.result in
    let inside : k < length c.args.applications.now = omega (arith, c.loop-application-test.true) in
    let item = c.as_slice-elements.ensures ∙ ap (λ a. a.elements) c.application-item.is in
    let step = glued_step (λ a. flat_map number_sides a.elements) c.args.applications.now k x c.args.table.now.lines c.args.table.now.next st.lines st.next c.glue_elements.new.table.lines c.glue_elements.new.table.next inside
    (record { lines_are = c.loop-application.invariant.0; next_is = c.loop-application.invariant.1 })
    (record {
      lines_are = c.in_ok-glue_elements.ensures.lines ∙ ap (λ es. glue_lines st.lines st.next (flat_map number_sides es)) item;
      next_is = c.in_ok-glue_elements.ensures.next ∙ ap (λ es. next_after_all st.lines st.next (flat_map number_sides es)) item;
    }) in
    let counted = count_step (λ a. length a.elements) c.args.applications.now k x inside in
    let so_many = ap length item in
    (step.lines_are, step.next_is, omega (arith, c.in-Some.ensures.1, c.loop-application.invariant.2, so_many, counted))
