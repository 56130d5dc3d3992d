use Rattle.std.proofs.Common.{None, sym, subst}
use Rattle.admission.specs.Around.{IsThere}
use Rattle.admission.proofs.Ahead.{there_above}
use Rattle.mesh_run.proofs.LinesUp.{AreOnTo, none_on_yet, one_more_on, still_fewer}
use Rattle.mesh_run.proofs.worklist.worklist_of.Goals as goal

pub loop-next-init : goal.loop-next-init
loop-next-init c =
    let f = c.args.scene.now.front.now in let refused = c.args.refusals.now.least.items in
    record {
      there = subst (IsThere f.lines) (sym c.next_line-next.ensures) (there_above f.lines 0);
      on = subst (AreOnTo c.new-work.result f.lines refused c.args.scene.now.last) (sym c.next_line-next.ensures) (none_on_yet f.lines f.next c.lines-lines.ensures.holds.rising refused c.args.scene.now.last c.new-work.result c.lines-lines.ensures.holds.positive);
    }

pub loop-next-smaller : goal.loop-next-smaller
loop-next-smaller c =
    let f = c.args.scene.now.front.now in
    still_fewer f.lines f.next c.in-Some.line _ _ c.lines-lines.ensures.holds.rising c.loop-next.invariant.there c.in-Some.is c.next_line-next-in-Some.ensures

pub loop-next-preserved : goal.loop-next-preserved
loop-next-preserved c =
    let f = c.args.scene.now.front.now in let refused = c.args.refusals.now.least.items in let last = c.args.scene.now.last in
    record {
      there = subst (IsThere f.lines) (sym c.next_line-next-in-Some.ensures) (there_above f.lines c.in-Some.line);
      on = subst (AreOnTo c.add_line.new.work f.lines refused last) (sym c.next_line-next-in-Some.ensures)
          (one_more_on f.lines f.next c.lines-lines.ensures.holds.rising refused last c.loop-next.work c.add_line.new.work c.in-Some.line
          (subst (AreOnTo c.loop-next.work f.lines refused last) c.in-Some.is c.loop-next.invariant.on) c.add_line.ensures.stay c.in_ok-add_line.ensures.added);
    }

pub returns : goal.returns
returns c =
    let f = c.args.scene.now.front.now in let refused = c.args.refusals.now.least.items in
    let on : AreOnTo c.loop-next.work f.lines refused c.args.scene.now.last None = subst (AreOnTo c.loop-next.work f.lines refused c.args.scene.now.last) c.in_default.is c.loop-next.invariant.on in
    record { each = λ line k l. on line k tt l }
