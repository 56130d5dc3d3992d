use Rattle.std.proofs.Common.{◌≡◌, ℕ, ◌+◌, ◌-◌, ◌<◌, ◌≤◌, length, slice_index_or, subst, ap, ◌∙◌, arith}
use Rattle.std.proofs.lemmas.List.Elements.{All-from_recursion}
use Rattle.rule_match.specs.Near.{IsCoveredBy}
use Rattle.rule_match.proofs.CoversAt.{one_more_at, greater_of}
use Rattle.rule_match.proofs.out_of_reach.greatest_reach_at.Goals as goal

pub loop-k-preserved : goal.loop-k-preserved
loop-k-preserved c =
    let rules = c.args.rules.now in let r = c.get.result.now in let k = c.loop-k.k in let reach = c.in_ok-reach_at.field-0 in
    let place : k ≡ k + 1 - 1 = omega arith in
    let within : k < length rules = omega (arith, c.loop-k-test.true, c.count-k-end.ensures) in
    let left : reach ≤ c.max-greatest.result = omega (arith, c.max-greatest.ensures) in
    let right : c.loop-k.greatest ≤ c.max-greatest.result = omega (arith, c.max-greatest.ensures) in
    let same : slice_index_or rules k r ≡ r = ap (λ (i : ℕ). slice_index_or rules i r) place ∙ c.get.ensures r in
    record {
      covers = one_more_at c.args.class rules k c.loop-k.greatest reach c.max-greatest.result r within same c.in_ok-reach_at.ensures.covers right left c.loop-k.invariant.covers;
      no_greater = λ m h. greater_of reach c.loop-k.greatest c.max-greatest.result m c.max-greatest.ensures
          (c.in_ok-reach_at.ensures.no_greater m (subst (IsCoveredBy m) same (All-from_recursion (IsCoveredBy m) rules h k r within))) (c.loop-k.invariant.no_greater m h);
    }
