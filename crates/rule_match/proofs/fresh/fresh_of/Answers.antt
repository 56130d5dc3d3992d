use mathlib.Core.Path.{sym, ◌∙◌, ap, subst}
use mathlib.Core.List.{List}
use Prim.Native.Nat.{ℕ}
use native.Mathlib.Omega.{arith}
use Rattle.std.specs.List.{Contains}
use Rattle.rule_match.proofs.Regions.{kept, none_held, only_kept, passed}
use Rattle.rule_match.proofs.fresh.fresh_of.Goals as goal
use Rattle.rule_match.proofs.fresh.fresh_of.Goals.{then-contains+in_ok-push, else-contains}

pub loop-p-init : goal.loop-p-init
loop-p-init c = record {
  all = λ p k h. absurd (omega (arith, h));
  only = λ p h. absurd (none_held p (subst (λ (z : List ℕ). Contains z p) c.new-common.ensures.items h));
}

pub loop-p-preserved : goal.loop-p-preserved
loop-p-preserved c = elim c.if-contains.branch [
  | then-contains+in_ok-push w ↦
      let items = ap (λ v. v.items) w.common-is ∙ w.in_ok-push.ensures.items in
      record {
        all = λ p k h e r. kept c.args.fresh.now c.args.region.now c.loop-p.common.items c.if-contains.common.items c.loop-p.p-index items c.loop-p-test.true c.loop-p.invariant.all p k h e r;
        only = only_kept c.args.fresh.now c.loop-p.common.items c.if-contains.common.items c.loop-p.p-index items c.loop-p-test.true c.loop-p.invariant.only;
      }
  | else-contains w ↦ record {
    all = λ p k h e r. subst (λ v. Contains v.items p) (sym w.common-is) (passed c.args.fresh.now c.args.region.now c.loop-p.common.items c.loop-p.p-index c.loop-p-test.true w.if-contains.ensures.cases c.loop-p.invariant.all p k h e r);
    only = λ p h. c.loop-p.invariant.only p (subst (λ v. Contains v.items p) w.common-is h);
  }
]

pub returns-clause-all : goal.returns-clause-all
returns-clause-all c = λ p r f. c.loop-p.invariant.all p f.0 (omega (arith, f.1, c.loop-p-test.false)) f.2 r

pub returns-clause-only : goal.returns-clause-only
returns-clause-only c = c.loop-p.invariant.only
