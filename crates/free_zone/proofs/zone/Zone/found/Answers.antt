use Rattle.std.proofs.Common.{sym, subst, ◌<◌, length}
use Rattle.std.specs.Prelude.{Option}
use Rattle.std.specs.Option.{option_map}
use Rattle.front_chain.specs.declared.front.Near.{Near}
use Rattle.front_chain.specs.Front.{still_near}
use Rattle.free_zone.specs.InTheWay.{mapping}
use Rattle.free_zone.proofs.Walking.{IsUnderWay, begun, further, fewer, ended, none_met}
use Rattle.free_zone.proofs.zone.Zone.found.Goals as goal

pub loop-next-init : goal.loop-next-init
loop-next-init c = (begun c.args.self.now (mapping c.args.front.now c.args.c.now c.args.mapped.now) c.bounds-near.result (option_map (λ n. n.line) c.first_near-next.result) c.lines-lines.ensures.holds c.first_near-next.ensures.all, c.first_near-next.ensures.near)

pub loop-next-smaller : goal.loop-next-smaller
loop-next-smaller c = subst (λ (o : Option Near). length (still_near c.args.front.now c.bounds-near.result (option_map (λ n. n.line) c.next_near-next.result)) < length (still_near c.args.front.now c.bounds-near.result (option_map (λ n. n.line) o))) (sym c.in-Some.is)
    (fewer c.args.front.now c.bounds-near.result c.in-Some.here.line (option_map (λ n. n.line) c.next_near-next.result) c.next_near-next.ensures.rest)

pub loop-next-preserved : goal.loop-next-preserved
loop-next-preserved c = (
  further c.args.self.now (mapping c.args.front.now c.args.c.now c.args.mapped.now) c.bounds-near.result c.loop-next.found c.pass-found.result c.in-Some.here.line c.pass-found.ensures (option_map (λ n. n.line) c.next_near-next.result)
      (subst (λ (o : Option Near). IsUnderWay c.args.self.now (mapping c.args.front.now c.args.c.now c.args.mapped.now) c.bounds-near.result c.loop-next.found (option_map (λ n. n.line) o)) c.in-Some.is c.loop-next.invariant.0) c.next_near-next.ensures.rest,
  c.next_near-next.ensures.near,
)

pub returns : goal.returns
returns c = ended c.args.self.now (mapping c.args.front.now c.args.c.now c.args.mapped.now) c.bounds-near.result c.loop-next.found
    (record { corners = c.bounds-near.ensures.zone; box = c.bounds-near.ensures.holds }) c.lines-lines.ensures.holds
    (subst (IsUnderWay c.args.self.now (mapping c.args.front.now c.args.c.now c.args.mapped.now) c.bounds-near.result c.loop-next.found) (none_met c.loop-next.next c.in_default.not-Some) c.loop-next.invariant.0)
