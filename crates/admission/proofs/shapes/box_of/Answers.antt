use Rattle.std.proofs.Common.{subst, arith}
use Rattle.std.specs.List.{All}
use Rattle.admission.specs.Around.{IsShapeIn}
use Rattle.std.proofs.lemmas.List.{take_all}
use Rattle.admission.proofs.Held.{held_more}
use Rattle.admission.proofs.shapes.box_of.Goals as goal

pub loop-shape-preserved : goal.loop-shape-preserved
loop-shape-preserved c = record {
  on_grid = c.around-bounds.ensures.on_grid;
  held = held_more c.loop-shape.bounds c.around-bounds.result c.args.shapes.now c.loop-shape.shape-index _ c.loop-shape-test.true c.around-bounds.ensures.keeps c.loop-shape.invariant.held
      (record { a = c.around-bounds.ensures.a; b = c.around-bounds.ensures.b; c = c.around-bounds.ensures.c });
}

pub returns : goal.returns
returns c = subst (All (IsShapeIn c.loop-shape.bounds)) (take_all c.loop-shape.shape-index c.args.shapes.now (omega (arith, c.loop-shape-test.false))) c.loop-shape.invariant.held
