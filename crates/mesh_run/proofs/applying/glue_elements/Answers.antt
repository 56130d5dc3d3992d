use Rattle.std.proofs.Common.{arith}
use Rattle.mesh_run.proofs.Put.{next_gluable, one_more_glued}
use Rattle.mesh_run.proofs.applying.glue_elements.Goals as goal

pub glue-requires-clause-gluable : goal.glue-requires-clause-gluable
glue-requires-clause-gluable c =
    next_gluable c.args.front.now c.args.elements.now c.loop-element.element-index c.loop-element.front
    (record { few = omega (arith, c.loop-element-test.true); glued = c.loop-element.invariant.glued }) c.element-item.result c.element-item.is c.requires.triangles c.requires.listed c.requires.may

pub loop-element-preserved : goal.loop-element-preserved
loop-element-preserved c = record {
  spare = omega (arith, c.loop-element.invariant.spare, c.glue.ensures.spare_elements);
  glued = one_more_glued c.args.front.now c.args.elements.now c.loop-element.element-index c.loop-element.front
      (record { few = omega (arith, c.loop-element-test.true); glued = c.loop-element.invariant.glued }) c.glue.new.self c.element-item.result c.element-item.is c.glue.ensures.points c.glue.ensures.lines c.glue.ensures.next;
}
