use Rattle.std.proofs.Common.{subst, sym}
use Rattle.front_chain.specs.Front.{AreNear}
use Rattle.free_zone.proofs.Listed.{least_listed, none_listed}
use Rattle.free_zone.proofs.zone.Zone.line_in_way.Goals as goal

pub returns-clause-least : goal.returns-clause-least
returns-clause-least c = least_listed c.deref.result.now (record { corners = c.bounds-near.ensures.zone; box = c.bounds-near.ensures.holds }) c.lines-lines.ensures.holds (subst (AreNear c.args.front.now c.bounds-near.result) (sym c.deref.ensures.value) c.in_ok-numbers.ensures.near) c.least_of.result c.least_of.ensures

pub returns-clause-none : goal.returns-clause-none
returns-clause-none c = none_listed c.deref.result.now (record { corners = c.bounds-near.ensures.zone; box = c.bounds-near.ensures.holds }) c.lines-lines.ensures.holds (subst (AreNear c.args.front.now c.bounds-near.result) (sym c.deref.ensures.value) c.in_ok-numbers.ensures.near) c.least_of.result c.least_of.ensures
