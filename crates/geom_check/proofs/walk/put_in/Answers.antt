use Rattle.std.proofs.Common.{◌+◌, ◌++◌, ◌∷◌, [], List, ℕ, ap, ◌∙◌, sym, subst, arith}
use Rattle.geom_check.specs.Walk.{AreSettled}
use Rattle.geom_check.proofs.WalkSteps.{settled_put}
use Rattle.geom_check.proofs.walk.put_in.Goals as goal

pub returns-clause-settled : goal.returns-clause-settled
returns-clause-settled c e =
    subst (λ (xs : List ℕ). AreSettled c.args.risers.now xs c.push-2.new.self.items (c.place_for-place.result + 1)) (sym c.in_ok-insert.ensures.items)
    (settled_put c.args.risers.now c.args.walk.now.order.items c.args.walk.now.changed.items c.push-2.new.self.items c.args.walk.now.last c.place_for-place.result c.args.id (omega (arith, c.if-place-walk.false)) (omega (arith, c.place_for-place.ensures, c.deref.ensures.len))
    (c.in_ok-push-2.ensures.items ∙ ap (λ (xs : List ℕ). xs ++ (c.place_for-place.result + 1) ∷ []) c.in_ok-push.ensures.items) c.requires.settled)
