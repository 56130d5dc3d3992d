use mathlib.Core.Path.{◌≡◌, sym, ◌∙◌, ap, subst}
use mathlib.Core.Bool.{true, true≢false}
use Rattle.std.specs.List.{Contains}
use Rattle.rule_match.specs.Trying.{point_test}
use Rattle.rule_match.proofs.Covered.{kept, passed}
use Rattle.rule_match.proofs.trying.Trying.region.Goals as goal
use Rattle.rule_match.proofs.trying.Trying.region.Goals.{then-point_holds+in_ok-push, else-point_holds}

pub loop-n-preserved : goal.loop-n-preserved
loop-n-preserved c = elim c.if-point_holds.branch [
  | then-point_holds+in_ok-push w ↦ kept (λ m. point_test c.args.self.now c.args.position _ m ≡ true) c.loop-n.region.items c.if-point_holds.region.items c.loop-n.n (ap (λ v. v.items) w.region-is ∙ w.in_ok-push.ensures.items) c.loop-n.invariant
  | else-point_holds w ↦ λ m h t. subst (λ v. Contains v.items m) (sym w.region-is) (passed (λ m. point_test c.args.self.now c.args.position _ m ≡ true) c.loop-n.region.items c.loop-n.n (λ e. true≢false (sym e ∙ (sym c.point_holds.ensures ∙ w.if-point_holds.false))) c.loop-n.invariant m h t)
]
