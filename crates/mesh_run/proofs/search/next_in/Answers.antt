use Rattle.std.proofs.Common.{◌≡◌, true, false, refl}
use Rattle.mesh_run.specs.Remembered.{setting_in, state_in}
use Rattle.mesh_run.proofs.Turns.{no_sooner, none_before, not_missed, nothing_left, taken_off}
use Rattle.mesh_run.proofs.search.next_in.Goals as goal

no : false ≡ true → ⊥
no e = cc

pub try_turn-requires-clause-first : goal.try_turn-requires-clause-first
try_turn-requires-clause-first g c =
    no_sooner c.args.scene.now.front.now.lines c.loop-turn.refusals.least.items c.args.scene.now.last c.in-Some.turn c.loop-turn.work c.loop-turn.invariant.to_try c.in-Some.ensures.first (c.if-is_open.ensures.0 refl)

pub try_turn-requires-clause-before : goal.try_turn-requires-clause-before
try_turn-requires-clause-before g c =
    none_before (setting_in c.args.scene.now) (state_in c.args.scene.now) c.loop-turn.refusals.least.items c.loop-turn.work c.loop-turn.invariant.remembered.remembered c.loop-turn.invariant.to_try
    c.in-Some.turn c.in-Some.ensures.first (c.if-is_open.ensures.0 refl).last_class

pub loop-turn-preserved : goal.loop-turn-preserved
loop-turn-preserved g c =
    let f = c.args.scene.now.front.now in let refused = c.loop-turn.refusals.least.items in let last = c.args.scene.now.last in
    record {
      remembered = c.loop-turn.invariant.remembered;
      few = c.loop-turn.invariant.few;
      to_try = not_missed f.lines refused last c.in-Some.turn c.take_first.new.work f.next c.lines-lines.ensures.holds.rising
          (taken_off f.lines refused last c.in-Some.turn c.loop-turn.work c.take_first.new.work c.loop-turn.invariant.to_try c.in-Some.ensures.others) (λ o. no (c.if-is_open.ensures.1 o));
    }

pub returns-clause-none : goal.returns-clause-none
returns-clause-none g c =
    nothing_left (setting_in c.args.scene.now) (state_in c.args.scene.now) c.loop-turn.refusals.least.items c.loop-turn.work c.loop-turn.invariant.remembered.remembered c.loop-turn.invariant.to_try c.in_default.ensures.empty
