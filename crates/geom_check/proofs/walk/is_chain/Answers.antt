use Rattle.std.proofs.Common.{◌≡◌, ◌≤◌, ◌<◌, Contains, length, List, ℕ, subst}
use Rattle.geom_check.specs.Walk.{BeginsOutside, DoAgreeAt}
use Rattle.geom_check.proofs.WalkSteps.{settled_after}
use Rattle.geom_check.proofs.walk.is_chain.Goals as goal

pub returns-then-begins_outside-clause-chain : goal.returns-then-begins_outside-clause-chain
returns-then-begins_outside-clause-chain c e = record {
  first = subst (λ (xs : List ℕ). BeginsOutside c.args.risers.now xs) c.deref.ensures.value (c.begins_outside.ensures.begins c.if-begins_outside.true);
  neighbours = settled_after c.args.risers.now c.args.walk.now.order.items c.args.walk.now.changed.items c.args.walk.now.last c.requires.settled
      (moved c.deref-then-begins_outside.result.now c.args.walk.now.order.items c.deref-then-begins_outside-2.result.now c.args.walk.now.changed.items c.deref-then-begins_outside.ensures.value c.deref-then-begins_outside-2.ensures.value (c.do_changed_agree.ensures.agree e));
}
  where
    moved : (xs ys cs ds : List ℕ) → xs ≡ ys → cs ≡ ds → ((i : ℕ) → Contains cs i → 1 ≤ i → i < length xs → DoAgreeAt c.args.risers.now xs i) → (i : ℕ) → Contains ds i → 1 ≤ i → i < length ys → DoAgreeAt c.args.risers.now ys i
    moved xs ys cs ds g h all = subst (λ (zs : List ℕ). (i : ℕ) → Contains zs i → 1 ≤ i → i < length ys → DoAgreeAt c.args.risers.now ys i) h (subst (λ (zs : List ℕ). (i : ℕ) → Contains cs i → 1 ≤ i → i < length zs → DoAgreeAt c.args.risers.now zs i) g all)
