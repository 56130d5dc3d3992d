use Rattle.std.proofs.Common.{◌≡◌, ℕ, ℤ, List, ◌-◌, slice_index, arith, subst, sym, inl, inr}
use Rattle.geom_check.specs.declared.events.Event.{Event}
use Rattle.geom_check.specs.declared.risers.Riser.{Riser}
use Rattle.geom_check.specs.Walk.{IsUpTo, IsChain, IsWalking}
use Rattle.geom_check.specs.Doubt.{IsReached, IsStuck, IsChainIn}
use Rattle.geom_check.proofs.Levels.{sound_all}
use Rattle.geom_check.proofs.Chains.{walk_sound, next_level}
use Rattle.geom_check.proofs.walk.are_sound.Goals as goal
use Rattle.geom_check.proofs.walk.are_sound.Goals.{then-not-done-via-then-not-done, then-not-done-via-else-not-done+then-not-is_chain}

pub loop-i-preserved : goal.loop-i-preserved
loop-i-preserved c =
    let up : IsUpTo c.in_ok-events.events.items c.go_up.new.walk.next (slice_index c.args.levels.now (c.loop-i.i - 1)) = subst (λ (es : List Event). IsUpTo es c.go_up.new.walk.next (slice_index c.args.levels.now (c.loop-i.i - 1))) c.deref.ensures.value (c.in_ok-done.ensures.up_to c.if-not-done.false) in
    let walking : IsWalking c.args.risers.now c.in_ok-events.events.items c.go_up.new.walk.next c.go_up.new.walk.order.items = subst (λ (es : List Event). IsWalking c.args.risers.now es c.go_up.new.walk.next c.go_up.new.walk.order.items) c.deref.ensures.value (c.in_ok-done.ensures.walking c.if-not-done.false) in
    let chain : IsChain c.args.risers.now c.go_up.new.walk.order.items = c.is_chain.ensures.chain c.if-not-is_chain.false in (
      up.in_list,
      next_level c.args.levels.now c.in_ok-events.events.items c.loop-i.i c.go_up.new.walk.next c.requires.increasing up,
      walking,
      chain.neighbours,
      walk_sound c.args.levels.now c.args.risers.now c.in_ok-events.events.items c.loop-i.i c.go_up.new.walk.next c.go_up.new.walk.order.items
          (record { increasing = c.requires.increasing; levels_of = c.requires.levels; grid = c.requires.risers; free = c.requires.free; ends = c.in_ok-events.ensures.ends })
          (omega arith) (omega arith) up walking chain c.loop-i.invariant.4,
      subst (λ (es : List Event). IsReached c.args.risers.now es c.go_up.new.walk.next c.go_up.new.walk.order.items c.go_up.new.walk.last) c.deref.ensures.value (c.in_ok-done.ensures.reached c.if-not-done.false),
    )

pub returns-clause-sound : goal.returns-clause-sound
returns-clause-sound c e chosen none balance = sound_all c.args.levels.now chosen c.args.risers.now c.requires.increasing c.requires.levels (λ k h j. c.loop-i.invariant.4 k h (omega arith) chosen none (balance _))

pub returns-then-not-done-clause-doubtful : goal.returns-then-not-done-clause-doubtful
returns-then-not-done-clause-doubtful c e = record {
  events = c.in_ok-events.events.items;
  ends = c.in_ok-events.ensures.ends;
  sorted = c.in_ok-events.ensures.sorted;
  strip = c.loop-i.i;
  positive = omega arith;
  in_list = omega arith;
  doubt = elim c.then-not-done.branch [
    | then-not-done-via-then-not-done w ↦ inl (subst (λ (es : List Event). IsStuck c.args.risers.now es (slice_index c.args.levels.now (c.loop-i.i - 1))) c.deref.ensures.value (c.in_ok-done.ensures.stuck w.if-not-done.true))
    | then-not-done-via-else-not-done+then-not-is_chain w ↦ inr (record {
      next = c.go_up.new.walk.next;
      order = c.go_up.new.walk.order.items;
      last = c.go_up.new.walk.last;
      up_to = subst (λ (es : List Event). IsUpTo es c.go_up.new.walk.next (slice_index c.args.levels.now (c.loop-i.i - 1))) c.deref.ensures.value (c.in_ok-done.ensures.up_to w.if-not-done.false);
      reached = subst (λ (es : List Event). IsReached c.args.risers.now es c.go_up.new.walk.next c.go_up.new.walk.order.items c.go_up.new.walk.last) c.deref.ensures.value (c.in_ok-done.ensures.reached w.if-not-done.false);
      broken = no_chain _ _ _ _ c.args.risers.now c.go_up.new.walk.order.items w.strip_at.ensures.low w.strip_at.ensures.high (w.is_chain.ensures.broken w.if-not-is_chain.true);
    })
  ];
}
  where
    no_chain : (low high m n : ℤ) (risers : List Riser) (order : List ℕ) → low ≡ m → high ≡ n → (IsChainIn low high risers order → ⊥) → IsChainIn m n risers order → ⊥
    no_chain low high m n risers order e f not is = not (subst (λ (y : ℤ). IsChainIn y high risers order) (sym e) (subst (λ (y : ℤ). IsChainIn m y risers order) (sym f) is))
