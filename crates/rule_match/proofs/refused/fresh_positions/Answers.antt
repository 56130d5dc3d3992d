use Rattle.std.proofs.Common.{arith, ◌∙◌, ap, subst, sym, List, ℕ}
use Rattle.std.specs.List.{All, Contains}
use Rattle.grid_geom.specs.Bounds.{IsOnGrid}
use Rattle.front_chain.specs.Front.{state_of}
use Rattle.rule_match.specs.declared.near.NearPoint.{NearPoint}
use Rattle.rule_match.specs.Passed.{AreFreshAt}
use Rattle.rule_match.proofs.BaseLines.{near_on}
use Rattle.rule_match.proofs.OverRules.{position_kept, position_more, position_passed}
use Rattle.rule_match.proofs.Regions.{none_held}
use Rattle.rule_match.proofs.refused.fresh_positions.Goals as goal
use Rattle.rule_match.proofs.refused.fresh_positions.Goals.{then-contains+in_ok-push, else-contains}

pub point_near-number-requires : goal.point_near-number-requires
point_near-number-requires c = subst (All (λ n. IsOnGrid n.at)) (sym c.near-near.ensures.value) (near_on (state_of c.args.base.now.front) c.args.base.now.frame c.args.base.now.scope c.args.base.now.near c.args.base.now.lines c.near-near.ensures.base.surrounded)

pub loop-k-init : goal.loop-k-init
loop-k-init c = record {
  all = λ j h. absurd (omega (arith, h));
  only = λ j h. absurd (none_held j (subst (λ (z : List ℕ). Contains z j) c.new-positions.ensures.items h));
}

pub loop-k-preserved : goal.loop-k-preserved
loop-k-preserved c = elim c.if-contains.branch [
  | then-contains+in_ok-push w ↦
      let items = ap (λ v. v.items) w.positions-is ∙ w.in_ok-push.ensures.items in
      record {
        all = position_kept c.near-near.result.now c.args.fresh.now c.loop-k.positions.items c.if-contains.positions.items c.loop-k.k items c.loop-k.invariant.all;
        only = position_more c.near-near.result.now c.args.fresh.now c.loop-k.positions.items c.if-contains.positions.items c.loop-k.k _ (ap (λ (n : NearPoint). n.number) c.point_near-number.ensures.point) w.if-contains.ensures.cases items c.loop-k.invariant.only;
      }
  | else-contains w ↦ record {
    all = λ j h r. subst (λ v. Contains v.items j) (sym w.positions-is) (position_passed c.near-near.result.now c.args.fresh.now c.loop-k.positions.items c.loop-k.k _ (ap (λ (n : NearPoint). n.number) c.point_near-number.ensures.point) w.if-contains.ensures.cases c.loop-k.invariant.all j h r);
    only = λ j h. c.loop-k.invariant.only j (subst (λ v. Contains v.items j) w.positions-is h);
  }
]

pub returns : goal.returns
returns c = subst (λ (near : List NearPoint). AreFreshAt near c.args.fresh.now c.loop-k.positions.items) c.near-near.ensures.value (record {
  all = λ j h r. c.loop-k.invariant.all j (omega (arith, h, c.loop-k-test.false)) r;
  only = c.loop-k.invariant.only;
})
