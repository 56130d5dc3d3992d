use Rattle.std.proofs.Common.{◌≡◌, true, is_some}
use Rattle.std.proofs.lemmas.List.Sorted.{IsNonDecreasingBy-from_sort}
use Rattle.std.proofs.lemmas.List.Elements.{All-from_recursion, All-same}
use Rattle.front_chain.specs.Front.{line_at}
use Rattle.admission.specs.Around.{numbers_near}
use Rattle.admission.proofs.NearWalk.{near_sorted, near_there}
use Rattle.admission.proofs.near.numbers_near.Goals as goal

pub returns-clause-value : goal.returns-clause-value
returns-clause-value c = near_sorted c.args.front.now c.args.near.now c.in_ok-numbers.numbers.items c.sort_unstable.new.self.items c.lines-lines.ensures.holds c.in_ok-numbers.ensures.near c.sort_unstable.ensures.permutation
    (IsNonDecreasingBy-from_sort (λ n. n) c.sort_unstable.new.self.items c.sort_unstable.ensures.sorted)

pub returns-clause-there : goal.returns-clause-there
returns-clause-there c =
    let value = near_sorted c.args.front.now c.args.near.now c.in_ok-numbers.numbers.items c.sort_unstable.new.self.items c.lines-lines.ensures.holds c.in_ok-numbers.ensures.near c.sort_unstable.ensures.permutation
    (IsNonDecreasingBy-from_sort (λ n. n) c.sort_unstable.new.self.items c.sort_unstable.ensures.sorted) in
    All-same (λ n. is_some (line_at c.args.front.now.lines n) ≡ true) c.sort_unstable.new.self.items (numbers_near c.args.near.now c.args.front.now) value
    (All-from_recursion (λ n. is_some (line_at c.args.front.now.lines n) ≡ true) (numbers_near c.args.near.now c.args.front.now) (near_there c.args.front.now c.args.near.now c.lines-lines.ensures.holds))
