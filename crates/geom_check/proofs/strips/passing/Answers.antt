use Rattle.std.proofs.Common.{rules}
use Rattle.std.proofs.lemmas.List.Sorted.{IsNonDecreasingBy-from_sort_by_key}
use Rattle.geom_check.proofs.Gathering.{order_of}
use Rattle.geom_check.proofs.strips.passing.Goals as goal

pub returns : goal.returns
returns c = order_of c.args.strip.now.low c.args.strip.now.high c.args.risers.now c.in_ok-passing.passing.items c.sort_unstable_by_key.new.self.items c.in_ok-passing.ensures.passing c.in_ok-passing.ensures.keys c.in_ok-passing.ensures.risers c.requires.free
    c.sort_unstable_by_key.ensures.permutation (IsNonDecreasingBy-from_sort_by_key (λ p. p.key) _ c.sort_unstable_by_key.ensures.sorted (λ a r q k. search rules))
