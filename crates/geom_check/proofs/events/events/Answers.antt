use Rattle.std.proofs.Common.{rules, length}
use Rattle.std.proofs.lemmas.List.Sorted.{IsNonDecreasingBy-from_sort_by_key}
use Rattle.geom_check.proofs.EventLists.{sorted_ends, rising_levels}
use Rattle.geom_check.proofs.events.events.Goals as goal

pub returns-clause-ends : goal.returns-clause-ends
returns-clause-ends c = sorted_ends c.args.risers.now (length c.args.risers.now) c.in_ok-events.events.items c.sort_unstable_by_key.new.self.items c.sort_unstable_by_key.ensures.permutation c.in_ok-events.ensures

pub returns-clause-rising : goal.returns-clause-rising
returns-clause-rising c =
    rising_levels c.args.risers.now (length c.args.risers.now) c.sort_unstable_by_key.new.self.items
    (sorted_ends c.args.risers.now (length c.args.risers.now) c.in_ok-events.events.items c.sort_unstable_by_key.new.self.items c.sort_unstable_by_key.ensures.permutation c.in_ok-events.ensures)
    (IsNonDecreasingBy-from_sort_by_key (λ e. e.key) _ c.sort_unstable_by_key.ensures.sorted (λ a r q k. search rules))

pub returns-clause-sorted : goal.returns-clause-sorted
returns-clause-sorted c = IsNonDecreasingBy-from_sort_by_key (λ e. e.key) _ c.sort_unstable_by_key.ensures.sorted (λ a r q k. search rules)
