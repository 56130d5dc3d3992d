use Rattle.std.proofs.Common.{◌≡◌, ◌+◌, ℕ, sym, ◌∙◌, ap, subst}
use Rattle.geom_check.specs.Walk.{IsWalking}
use Rattle.geom_check.proofs.WalkSteps.{walking_put, walking_out}
use Rattle.geom_check.proofs.walk.pass.Goals as goal
use Rattle.geom_check.proofs.walk.pass.Goals.{then-event+in_ok-done, else-event+in_ok-done-2}

pub returns-clause-walking : goal.returns-clause-walking
returns-clause-walking c e = elim c.if-event.branch [
  | then-event+in_ok-done w ↦ same c.args.walk.now.next c.if-event.walk.next (ap (λ v. v.next) w.walk-is ∙ w.take_out.ensures.next)
      (subst (λ v. IsWalking c.args.risers.now c.args.events.now (c.args.walk.now.next + 1) v.order.items) (sym w.walk-is)
      (walking_out c.args.risers.now c.args.events.now c.args.walk.now.next _ c.args.walk.now.order.items w.take_out.new.walk.order.items c.requires.in_list w.if-event.true (w.in_ok-done.ensures.taken_out (sym w.done-is ∙ e)) c.requires.walking))
  | else-event+in_ok-done-2 w ↦ same c.args.walk.now.next c.if-event.walk.next (ap (λ v. v.next) w.walk-is ∙ w.put_in.ensures.next)
      (subst (λ v. IsWalking c.args.risers.now c.args.events.now (c.args.walk.now.next + 1) v.order.items) (sym w.walk-is)
      (walking_put c.args.risers.now c.args.events.now c.args.walk.now.next _ c.args.walk.now.order.items w.put_in.new.walk.order.items c.requires.in_list (c.requires.ends c.args.walk.now.next _ c.requires.in_list) w.if-event.false (w.in_ok-done-2.ensures.put_in (sym w.done-is ∙ e)) c.requires.walking))
]
  where
    same : (m n : ℕ) → n ≡ m → IsWalking c.args.risers.now c.args.events.now (m + 1) c.if-event.walk.order.items → IsWalking c.args.risers.now c.args.events.now (n + 1) c.if-event.walk.order.items
    same m n h w = subst (λ (k : ℕ). IsWalking c.args.risers.now c.args.events.now (k + 1) c.if-event.walk.order.items) (sym h) w
