use Rattle.std.proofs.Common.{◌++◌, subst, sym, arith, ◌∙◌}
use Rattle.rule_match.specs.Near.{whole_grid}
use Rattle.mesh_run.proofs.HeldAreas.{Holds, all_but_last, all_taken, all_taken_of, one_more_element, wider_meets}
use Rattle.mesh_run.proofs.touched.area_of.Goals as goal

pub loop-element-preserved : goal.loop-element-preserved
loop-element-preserved c =
    let pts = c.args.front.now.points ++ c.args.made.now in
    record {
      holds = one_more_element c.loop-element.area c.with_element-area.result pts c.args.elements.now c.loop-element.element-index c.element-item.result (omega (arith, c.loop-element-test.true)) c.with_element-area.ensures.wider c.loop-element.invariant.holds
          (subst (Holds c.with_element-area.result pts) (c.as_slice.ensures ∙ c.element-item.is) c.with_element-area.ensures.holds);
      on_grid = wider_meets c.loop-element.area c.with_element-area.result whole_grid c.with_element-area.ensures.wider c.loop-element.invariant.on_grid;
      least = λ other meets held.
          let parts = all_but_last (Holds other pts) c.args.elements.now c.loop-element.element-index c.element-item.result (omega (arith, c.loop-element-test.true)) held in
          c.with_element-area.ensures.least other (c.loop-element.invariant.least other meets parts.0) (subst (Holds other pts) (sym (c.as_slice.ensures ∙ c.element-item.is)) parts.1);
    }

pub returns-clause-least : goal.returns-clause-least
returns-clause-least c = λ other meets held.
    c.loop-element.invariant.least other meets (all_taken_of (Holds other (c.args.front.now.points ++ c.args.made.now)) c.args.elements.now c.loop-element.element-index (omega (arith, c.loop-element-test.false)) held)

pub returns-clause-holds : goal.returns-clause-holds
returns-clause-holds c =
    all_taken (Holds c.loop-element.area (c.args.front.now.points ++ c.args.made.now)) c.args.elements.now c.loop-element.element-index (omega (arith, c.loop-element-test.false)) (omega (arith, c.loop-element.auto.element-index-end)) c.loop-element.invariant.holds
