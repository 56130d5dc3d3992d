use Rattle.std.proofs.Common.{◌++◌, subst, sym, arith}
use Rattle.state_law.specs.State.{point_at}
use Rattle.mesh_run.specs.Remembered.{IsInArea}
use Rattle.mesh_run.proofs.HeldAreas.{all_but_last, all_taken, all_taken_of, one_more_held, wider_on}
use Rattle.mesh_run.proofs.touched.with_element.Goals as goal

pub loop-n-preserved : goal.loop-n-preserved
loop-n-preserved c =
    let pts = c.args.front.now.points ++ c.args.made.now in
    record {
      wider = wider_on c.args.area.now c.loop-n.wide c.widened-wide.result c.loop-n.invariant.wider c.widened-wide.ensures.wider;
      holds = one_more_held c.loop-n.wide c.widened-wide.result pts c.args.element.now c.loop-n.n-index (omega (arith, c.loop-n-test.true)) c.widened-wide.ensures.wider c.loop-n.invariant.holds
          (subst (IsInArea c.widened-wide.result) c.corner_of.ensures c.widened-wide.ensures.holds);
      least = λ other wider held.
          let parts = all_but_last (λ n. IsInArea other (point_at pts n)) c.args.element.now c.loop-n.n-index 0 (omega (arith, c.loop-n-test.true)) held in
          c.widened-wide.ensures.least other (c.loop-n.invariant.least other wider parts.0) (subst (IsInArea other) (sym c.corner_of.ensures) parts.1);
    }

pub returns-clause-least : goal.returns-clause-least
returns-clause-least c = λ other wider held.
    c.loop-n.invariant.least other wider (all_taken_of (λ n. IsInArea other (point_at (c.args.front.now.points ++ c.args.made.now) n)) c.args.element.now c.loop-n.n-index (omega (arith, c.loop-n-test.false)) held)

pub returns-clause-holds : goal.returns-clause-holds
returns-clause-holds c = all_taken (λ n. IsInArea c.loop-n.wide (point_at (c.args.front.now.points ++ c.args.made.now) n)) c.args.element.now c.loop-n.n-index (omega (arith, c.loop-n-test.false)) (omega (arith, c.loop-n.auto.n-index-end)) c.loop-n.invariant.holds
